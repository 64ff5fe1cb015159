-- What no run changes of subscribers: their connections and their borrow limits.
use Rattle.std.specs.Prelude.{ℕ, List, slice_get, Option, Some, None}
use Rattle.iox_lanes_machine.specs.LanesParties.Parties.{SubscriberLaneState}
use Rattle.iox_lanes_machine.specs.LanesParties.declared.call.Entry.{Entry}
use Rattle.iox_lanes_machine.specs.Paces.{led}
use Rattle.iox_lanes_machine.specs.World.{World, RunsTo}
use Rattle.iox_lanes_laws.specs.Payloads.{SubscriberStays}

-- Either there is no subscriber before and after, or it has the same connections and borrow limit before and after.
abbrev pub StaysThere : Option SubscriberLaneState → Option SubscriberLaneState → Type 0
StaysThere None None = Unit {0}
StaysThere None (Some after) = ⊥
StaysThere (Some before) None = ⊥
StaysThere (Some before) (Some after) = SubscriberStays before after

-- The subscriber at each place, if any, has the same connections and borrow limit before and after.
abbrev pub SubscribersStayThere : World → World → Type 0
SubscribersStayThere m n = (place : ℕ) → StaysThere (slice_get m.subscribers place) (slice_get n.subscribers place)

-- No run changes the connections or the borrow limit of a subscriber.
abbrev pub RunsKeepLimits : Type 0
RunsKeepLimits = (m : World) (entries : List Entry) (made : ℕ) (n : World) → RunsTo m entries made n → SubscribersStayThere m n

-- Wherever entries lead lanes, no subscriber's connections or borrow limit change.
abbrev pub EntriesKeepLimits : Type 0
EntriesKeepLimits = (m : World) (entries : List Entry) → SubscribersStayThere m (led m entries)
