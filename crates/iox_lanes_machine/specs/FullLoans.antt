-- A loan finds no slot only if all slots of its publisher were used when it began.
use Rattle.std.specs.Prelude.{ℕ, ◌≡◌, ◌+◌, ◌<◌, ◌≤◌, ◌^◌, ◌⊎◌, true, List, [], ◌∷◌, ◌++◌, slice_get, Some}
use Rattle.iox_lanes_machine.specs.QueuesSteps.declared.order.Placed.{Placed}
use Rattle.iox_lanes_machine.specs.LanesParties.PublisherKeeping.{loan_of}
use Rattle.iox_lanes_machine.specs.LanesParties.declared.publisher.slot_book.LoanAnswer.TheVariants as loan
use Rattle.iox_lanes_machine.specs.LanesParties.Parties.{PublisherLaneState, is_out}
use Rattle.iox_lanes_machine.specs.LanesParties.declared.call.Answer.TheVariants as answer
use Rattle.iox_lanes_machine.specs.LanesParties.declared.call.Call.TheVariants as call
use Rattle.iox_lanes_machine.specs.LanesParties.declared.call.Entry.{Entry}
use Rattle.iox_lanes_machine.specs.LanesParties.declared.call.FinishedCall.{FinishedCall}
use Rattle.iox_lanes_machine.specs.LanesParties.declared.call.Move.TheVariants.{Begin, GoOn}
use Rattle.iox_lanes_machine.specs.LanesParties.declared.call.Party.TheVariants.{Publisher}
use Rattle.iox_lanes_machine.specs.Borrowing.{borrows}
use Rattle.iox_lanes_machine.specs.LedgerUses.{one_if, count, IsOwn}
use Rattle.iox_lanes_machine.specs.Paces.{led, IsInCall}
use Rattle.iox_lanes_machine.specs.Rings.{waiting}
use Rattle.iox_lanes_machine.specs.Uses.{aside_at}
use Rattle.iox_lanes_machine.specs.WholeReads.{CameTo}
use Rattle.iox_lanes_machine.specs.World.{World, fits, happens, publisher_stage}
use Rattle.iox_lanes_machine.specs.Links.{LinkState}

-- The slot waits at a connection, lies aside there, or is borrowed from it.
pub record IsHeld (m : World) (slot : ℕ) : Type 0 where
  pub connection : ℕ
  pub link : LinkState
  pub order : List Placed
  pub found : slice_get m.links connection ≡ Some link
  pub got : slice_get m.orders connection ≡ Some order
  pub has : 0 < count slot (waiting link order) + count slot
      (aside_at m.table connection link (publisher_stage (slice_get m.publishers link.publisher))) + one_if
      (borrows connection slot (slice_get m.subscribers link.subscriber))

-- The slot of a publisher is in use: it is a loan, it is in the history, or waits, lies aside or is borrowed somewhere. A slot in a
-- completion ring isn't in use any longer.
abbrev pub IsInUse : World → PublisherLaneState → ℕ → Type 0
IsInUse m lane slot = (is_out (loan_of slot lane.port.book) ≡ true) ⊎ ((0 < count slot lane.port.book.history) ⊎ IsHeld m slot)

-- As long as at most 2^63 steps were made: if a loan ends without a slot, then each slot of its publisher was in use when it began,
-- whatever was done in between.
abbrev pub LoansFindAllUsed : Type 0
LoansFindAllUsed = (m : World) → CameTo m → (place : ℕ) (entries : List Entry) → fits m (Publisher place) (Begin call.LoanUninit) ≡ true
    → (led (happens m (Publisher place) (Begin call.LoanUninit)) entries).moments ≤ 2 ^ 63
    → IsInCall (led (happens m (Publisher place) (Begin call.LoanUninit)) entries) place m.moments
    → (ended : FinishedCall) → (happens (led (happens m (Publisher place) (Begin call.LoanUninit)) entries) (Publisher place)
    GoOn).finished ≡ (led (happens m (Publisher place) (Begin call.LoanUninit)) entries).finished ++ ended ∷ []
    → ended.answer ≡ answer.Lent loan.OutOfMemory
    → (lane : PublisherLaneState) → slice_get m.publishers place ≡ Some lane → (slot : ℕ) → IsOwn lane.port.book slot → IsInUse m lane slot
