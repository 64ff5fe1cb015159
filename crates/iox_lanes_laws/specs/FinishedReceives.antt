-- What each receive that ended took at its connections, in any run of lanes.
use Rattle.std.specs.Prelude.{ℕ, ◌≡◌, ◌-◌, ◌<◌, ◌≤◌, ◌^◌, true, false, List, ◌∷◌, ◌++◌, Contains, length, slice_get, Some}
use Rattle.iox_lanes_base.specs.declared.calls.subscriber.Receipt.{Receipt}
use Rattle.iox_lanes_base.specs.declared.calls.subscriber.SubscriberCall.TheVariants.{Received}
use Rattle.iox_lanes_machine.specs.LanesParties.Parties.{SubscriberLaneState, subscriber_fits}
use Rattle.iox_lanes_machine.specs.LanesParties.declared.call.Answer.TheVariants as answer
use Rattle.iox_lanes_machine.specs.LanesParties.declared.call.Call.TheVariants as call
use Rattle.iox_lanes_machine.specs.LanesParties.declared.call.CallName.TheVariants as name
use Rattle.iox_lanes_machine.specs.LanesParties.declared.call.Entry.{Entry}
use Rattle.iox_lanes_machine.specs.LanesParties.declared.call.FinishedCall.{FinishedCall}
use Rattle.iox_lanes_machine.specs.LanesParties.declared.call.Move.TheVariants.{Begin, GoOn}
use Rattle.iox_lanes_machine.specs.LanesParties.declared.call.Party.TheVariants.{Subscriber}
use Rattle.iox_lanes_machine.specs.Paces.{led}
use Rattle.iox_lanes_machine.specs.Receipts.{is_receiver}
use Rattle.iox_lanes_machine.specs.WholeReads.{CameTo}
use Rattle.iox_lanes_machine.specs.World.{World, happens}
use Rattle.iox_lanes_laws.specs.Takes.{Visits, own_takes}

-- A receive that ended on the way to these lanes, with the lanes and the subscriber when it began, the entries up to its last step, and
-- those after it. It took or looked once at each connection, in their order, up to the first that gave a message, and its answer is what
-- these takes say. This holds for fewer than 2^64 - 1 connections.
pub record WasReceived (m : World) (ended : FinishedCall) : Type 0 where
  pub before : World
  pub came : CameTo before
  pub place : ℕ
  pub lane : SubscriberLaneState
  pub during : List Entry
  pub behind : List Entry
  pub own : ended.party ≡ Subscriber place
  pub found : slice_get before.subscribers place ≡ Some lane
  pub may : subscriber_fits lane (Begin call.Receive) ≡ true
  pub first : ended.first ≡ before.moments
  pub last : ended.last ≡ (led (happens before (Subscriber place) (Begin call.Receive)) during).moments
  pub leads : led (happens before (Subscriber place) (Begin call.Receive))
      (during ++ record { party = Subscriber place; step = GoOn } ∷ behind) ≡ m
  pub took : length lane.port.routes < 2 ^ 64 - 1 → (given : Receipt) × (ended.answer ≡ answer.Received given)
      × Visits lane.port.borrowed lane.port.most_borrowed 0 false lane.port.routes
      (own_takes (λ party. is_receiver party place) (happens before (Subscriber place) (Begin call.Receive)) during) (Received given)

-- Each receive that ended took its message as `WasReceived` says.
abbrev pub AllReceivesTook : World → Type 0
AllReceivesTook m = (ended : FinishedCall) → Contains m.finished ended → ended.call ≡ name.Receive → WasReceived m ended

-- Each receive that ended took its message as `WasReceived` says, as long as at most 2^63 steps were made.
abbrev pub ReceivesFollow : World → Type 0
ReceivesFollow m = m.moments ≤ 2 ^ 63 → AllReceivesTook m

-- On all lanes that came somewhere by steps, each receive that ended took its message as `WasReceived` says, as long as at most 2^63 steps
-- were made.
abbrev pub FinishedReceivesFollow : Type 0
FinishedReceivesFollow = (m : World) → CameTo m → ReceivesFollow m
