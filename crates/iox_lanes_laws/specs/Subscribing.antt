-- What a subscriber's call that no other call overlaps leaves.
use Rattle.std.specs.Prelude.{ℕ, ◌≡◌, ◌<◌, ◌++◌, true, ◌∷◌, length, slice_get, Some, None}
use Rattle.iox_lanes_machine.specs.LanesBase.declared.calls.route.Route.{Route}
use Rattle.iox_lanes_machine.specs.LanesBase.declared.calls.subscriber.Receipt.{Receipt}
use Rattle.iox_lanes_machine.specs.LanesBase.declared.calls.subscriber.Receipt.TheVariants as receipt
use Rattle.iox_lanes_machine.specs.LanesParties.Parties.{SubscriberLaneState, place_of}
use Rattle.iox_lanes_machine.specs.LanesParties.declared.call.Answer.TheVariants as answer
use Rattle.iox_lanes_machine.specs.LanesParties.declared.call.Call.TheVariants as call
use Rattle.iox_lanes_machine.specs.LanesParties.declared.call.Party.TheVariants.{Subscriber}
use Rattle.iox_lanes_machine.specs.LedgerRooms.{borrowed_of}
use Rattle.iox_lanes_machine.specs.Held.{slot_held}
use Rattle.iox_lanes_machine.specs.Resting.{mail_at}
use Rattle.iox_lanes_machine.specs.World.{World}
use Rattle.iox_lanes_laws.specs.Turns.{IsInTurn, IsAnswered, MailStays}

-- Each subscriber other than the one at this place, and each publisher, is as it was.
pub record OnlySubscriber (m : World) (place : ℕ) (n : World) : Type 0 where
  pub subscribers : (other : ℕ) → (other ≡ place → ⊥) → slice_get n.subscribers other ≡ slice_get m.subscribers other
  pub publishers : n.publishers ≡ m.publishers

-- Exactly the same slots are borrowed before and after, each from the same connection.
abbrev pub SamplesStay : SubscriberLaneState → SubscriberLaneState → Type 0
SamplesStay before after = (slot : ℕ) → place_of slot after ≡ place_of slot before

-- Each slot other than this one is borrowed from the same connection before and after, or not borrowed at all.
abbrev pub OtherSamplesStay : SubscriberLaneState → ℕ → SubscriberLaneState → Type 0
OtherSamplesStay before slot after = (other : ℕ) → (other ≡ slot → ⊥) → place_of other after ≡ place_of other before

-- A message waits at the connection.
abbrev pub SomeWait : World → Route → Type 0
SomeWait m route = 0 < length (mail_at m route.connection)

-- The connection gives the subscriber a message: one waits there, and the subscriber borrows fewer samples from it than its borrow limit.
abbrev pub Gives : World → SubscriberLaneState → Route → Type 0
Gives m lane route = SomeWait m route × (borrowed_of route.connection lane < lane.port.most_borrowed)

-- None of the subscriber's connections before this place has the property.
abbrev pub NoneBefore : SubscriberLaneState → ℕ → (Route → Type 0) → Type 0
NoneBefore lane place Is = (earlier : ℕ) (route : Route) → earlier < place → slice_get lane.port.routes earlier ≡ Some route → Is route → ⊥

-- None of the subscriber's connections has the property.
abbrev pub NoneOf : SubscriberLaneState → (Route → Type 0) → Type 0
NoneOf lane Is = (place : ℕ) (route : Route) → slice_get lane.port.routes place ≡ Some route → Is route → ⊥

-- One of the subscriber's connections has the property.
pub record OneOf (lane : SubscriberLaneState) (Is : Route → Type 0) : Type 0 where
  pub place : ℕ
  pub route : Route
  pub at : slice_get lane.port.routes place ≡ Some route
  pub is : Is route

-- A receive took the oldest message that waits at the connection of this place, which is the first place whose connection gives a message.
-- Its slot is borrowed from that connection from then on.
pub record Takes (m : World) (before : SubscriberLaneState) (place slot : ℕ) (n : World) (after : SubscriberLaneState) : Type 0 where
  pub route : Route
  pub at : slice_get before.port.routes place ≡ Some route
  pub fewer : borrowed_of route.connection before < before.port.most_borrowed
  pub oldest : mail_at m route.connection ≡ slot ∷ mail_at n route.connection
  pub elsewhere : (connection : ℕ) → (connection ≡ route.connection → ⊥) → mail_at n connection ≡ mail_at m connection
  pub first : NoneBefore before place (Gives m before)
  pub borrowed : place_of slot after ≡ Some place
  pub others : OtherSamplesStay before slot after

-- A receive took nothing.
pub record TakesNone (m : World) (before : SubscriberLaneState) (n : World) (after : SubscriberLaneState) : Type 0 where
  pub mail : MailStays m n
  pub samples : SamplesStay before after
  pub none : NoneOf before (Gives m before)

-- A receive takes from the first connection that gives a message. If none does, it takes nothing, and is refused exactly if a message waits
-- at one of them.
abbrev pub Receives : World → SubscriberLaneState → Receipt → World → SubscriberLaneState → Type 0
Receives m before (receipt.Taken place slot) n after = Takes m before place slot n after
Receives m before receipt.Nothing n after = TakesNone m before n after × NoneOf before (SomeWait m)
Receives m before receipt.ExceedsMaxBorrows n after = TakesNone m before n after × OneOf before (SomeWait m)

-- A receive that no other call overlaps ends as `Receives` says.
abbrev pub ReceivesInTurn : Type 0
ReceivesInTurn = (m n : World) (place : ℕ) (before after : SubscriberLaneState) → IsInTurn m (Subscriber place) call.Receive n
    → slice_get m.subscribers place ≡ Some before → slice_get n.subscribers place ≡ Some after
    → (given : Receipt) × IsAnswered m (Subscriber place) call.Receive (answer.Received given) n × OnlySubscriber m place n
    × Receives m before given n after

-- After a release that no other call overlaps, the sample isn't borrowed any longer; nothing else changes.
abbrev pub ReleasesInTurn : Type 0
ReleasesInTurn = (m n : World) (place sample : ℕ) (before after : SubscriberLaneState)
    → IsInTurn m (Subscriber place) (call.Release sample) n → slice_get m.subscribers place ≡ Some before
    → slice_get n.subscribers place ≡ Some after
    → IsAnswered m (Subscriber place) (call.Release sample) (answer.Released true) n × OnlySubscriber m place n × MailStays m n
    × (place_of sample after ≡ None) × OtherSamplesStay before sample after

-- A read that no other call overlaps returns what its sample's slot contained when it began, and changes nothing.
abbrev pub ReadsInTurn : Type 0
ReadsInTurn = (m n : World) (place sample : ℕ) (before after : SubscriberLaneState) → IsInTurn m (Subscriber place) (call.Read sample) n
    → slice_get m.subscribers place ≡ Some before → slice_get n.subscribers place ≡ Some after
    → IsAnswered m (Subscriber place) (call.Read sample) (answer.Read (length m.read)) n × (n.read ≡ m.read ++ slot_held m.table sample)
    × OnlySubscriber m place n × MailStays m n × SamplesStay before after
