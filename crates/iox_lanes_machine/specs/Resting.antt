-- Lanes whose ports are between calls: what waits at a connection, and whether any loan or sample exists.
use Rattle.std.specs.Prelude.{ℕ, ◌≡◌, ◌≤◌, ◌^◌, true, false, List, [], get_or, slice_get, Option, Some, None}
use Rattle.std.specs.List.{All}
use Rattle.iox_lanes_machine.specs.QueuesSteps.declared.order.Placed.{Placed}
use Rattle.iox_lanes_machine.specs.LanesBase.Publishing.{publisher_is_idle}
use Rattle.iox_lanes_machine.specs.LanesBase.Subscribing.{subscriber_is_idle}
use Rattle.iox_lanes_machine.specs.LanesParties.PublisherKeeping.{loan_of}
use Rattle.iox_lanes_machine.specs.LanesParties.Parties.{is_out, is_borrowed, place_of}
use Rattle.iox_lanes_machine.specs.Links.{LinkState}
use Rattle.iox_lanes_machine.specs.Rings.{waiting}
use Rattle.iox_lanes_machine.specs.World.{World, publisher_stage, subscriber_stage}
use Rattle.iox_lanes_machine.specs.declared.resting.Unrest.{Unrest}
use Rattle.iox_lanes_machine.specs.declared.resting.Unrest.TheVariants as unrest

-- The slots that wait at a connection by its order, the oldest first; none if there is no connection.
abbrev pub mail_by : Option LinkState → List Placed → List ℕ
mail_by None order = []
mail_by (Some link) order = waiting link order

-- The slots that wait at the connection with this number by its order, the oldest first.
abbrev pub mail_at : World → ℕ → List ℕ
mail_at m connection = mail_by (slice_get m.links connection) (get_or m.orders connection [])

-- The connection is at rest: at most 2^63 steps were made, and its publisher and its subscriber are between calls.
pub record Rests (m : World) (connection : ℕ) : Type 0 where
  pub few : m.moments ≤ 2 ^ 63
  pub sender : (link : LinkState) → slice_get m.links connection ≡ Some link
      → publisher_is_idle (publisher_stage (slice_get m.publishers link.publisher)) ≡ true
  pub receiver : (link : LinkState) → slice_get m.links connection ≡ Some link
      → subscriber_is_idle (subscriber_stage (slice_get m.subscribers link.subscriber)) ≡ true

-- No party is inside a call.
pub record AllBetween (m : World) : Type 0 where
  pub publishers : All (λ lane. publisher_is_idle lane.port.call ≡ true) m.publishers
  pub subscribers : All (λ lane. subscriber_is_idle lane.port.call ≡ true) m.subscribers

-- There is no loan and no sample.
pub record NoneOut (m : World) : Type 0 where
  pub loans : All (λ lane. (slot : ℕ) → is_out (loan_of slot lane.port.book) ≡ false) m.publishers
  pub samples : All (λ lane. (slot : ℕ) → is_borrowed (place_of slot lane) ≡ false) m.subscribers

-- Why lanes can't be handed on: a party is inside a call; or no party is inside a call, and a loan or a sample exists.
abbrev pub IsUnrest : Unrest → World → Type 0
IsUnrest unrest.PartyInCall m = AllBetween m → ⊥
IsUnrest unrest.SamplesOut m = AllBetween m × (NoneOut m → ⊥)
