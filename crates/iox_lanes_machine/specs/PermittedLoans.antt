-- A loan ends as its publisher's record says when it begins: refused, or with a slot.
use Rattle.std.specs.Prelude.{ℕ, ◌≡◌, ◌+◌, ◌<◌, ◌≤◌, ◌^◌, List, [], ◌∷◌, ◌++◌, true, length, slice_get, Some}
use Rattle.iox_lanes_machine.specs.LanesParties.declared.publisher.slot_book.LoanAnswer.{LoanAnswer}
use Rattle.iox_lanes_machine.specs.LanesParties.declared.publisher.slot_book.LoanAnswer.TheVariants as loan
use Rattle.iox_lanes_machine.specs.LanesParties.Parties.{PublisherLaneState}
use Rattle.iox_lanes_machine.specs.LanesParties.declared.call.Answer.TheVariants as answer
use Rattle.iox_lanes_machine.specs.LanesParties.declared.call.Call.TheVariants as call
use Rattle.iox_lanes_machine.specs.LanesParties.declared.call.Entry.{Entry}
use Rattle.iox_lanes_machine.specs.LanesParties.declared.call.FinishedCall.{FinishedCall}
use Rattle.iox_lanes_machine.specs.LanesParties.declared.call.Move.TheVariants.{Begin, GoOn}
use Rattle.iox_lanes_machine.specs.LanesParties.declared.call.Party.TheVariants.{Publisher}
use Rattle.iox_lanes_machine.specs.LedgerRooms.{loans_out}
use Rattle.iox_lanes_machine.specs.Loans.{worst_case}
use Rattle.iox_lanes_machine.specs.Paces.{led, IsInCall}
use Rattle.iox_lanes_machine.specs.WholeReads.{CameTo}
use Rattle.iox_lanes_machine.specs.World.{World, fits, happens}

-- A loan of this publisher is refused exactly if it has as many loans as its loan limit allows, and gets a slot if it has fewer loans and
-- as many slots as the worst case needs.
pub record EndsAsBegun (m : World) (lane : PublisherLaneState) (given : LoanAnswer) : Type 0 where
  pub refused : given ≡ loan.ExceedsMaxLoans → loans_out lane.port.book ≡ lane.port.book.most_loans
  pub refuses : loans_out lane.port.book ≡ lane.port.book.most_loans → given ≡ loan.ExceedsMaxLoans
  pub permitted : loans_out lane.port.book < lane.port.book.most_loans → worst_case m lane ≤ length lane.port.book.uses → (slot : ℕ)
      × (given ≡ loan.Slot slot)

-- As long as at most 2^63 steps were made, and for slots with numbers less than 2^64: each loan ends as the state when it began demands
-- (`EndsAsBegun`), whatever was done in between.
abbrev pub LoansEndAsBegun : Type 0
LoansEndAsBegun = (m : World) → CameTo m → (place : ℕ) (entries : List Entry) → fits m (Publisher place) (Begin call.LoanUninit) ≡ true
    → (led (happens m (Publisher place) (Begin call.LoanUninit)) entries).moments ≤ 2 ^ 63
    → IsInCall (led (happens m (Publisher place) (Begin call.LoanUninit)) entries) place m.moments
    → (ended : FinishedCall) → (happens (led (happens m (Publisher place) (Begin call.LoanUninit)) entries) (Publisher place)
    GoOn).finished ≡ (led (happens m (Publisher place) (Begin call.LoanUninit)) entries).finished ++ ended ∷ []
    → (given : LoanAnswer) → ended.answer ≡ answer.Lent given
    → (lane : PublisherLaneState) → slice_get m.publishers place ≡ Some lane
    → lane.port.book.first + length lane.port.book.loans < 2 ^ 64 → EndsAsBegun m lane given
