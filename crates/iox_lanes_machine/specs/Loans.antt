-- The answer of a loan, by what its publisher's slots are used for.
use Rattle.std.specs.Prelude.{ℕ, ◌≡◌, ◌+◌, ◌-◌, ◌*◌, ◌<◌, ◌≤◌, ◌^◌, ◌⊎◌, true, false, ◌∷◌, [], ◌++◌, length, slice_get, Some}
use Rattle.iox_lanes_machine.specs.LanesParties.PublisherKeeping.{loan_of}
use Rattle.iox_lanes_machine.specs.LanesParties.declared.publisher.slot_book.LoanAnswer.{LoanAnswer}
use Rattle.iox_lanes_machine.specs.LanesParties.declared.publisher.slot_book.LoanAnswer.TheVariants as loan
use Rattle.iox_lanes_machine.specs.LanesParties.Parties.{PublisherLaneState, is_out}
use Rattle.iox_lanes_machine.specs.LanesParties.declared.call.Answer.TheVariants as answer
use Rattle.iox_lanes_machine.specs.LanesParties.declared.call.FinishedCall.{FinishedCall}
use Rattle.iox_lanes_machine.specs.LanesParties.declared.call.Party.TheVariants.{Publisher}
use Rattle.iox_lanes_machine.specs.LedgerRooms.{loans_out}
use Rattle.iox_lanes_machine.specs.LedgerUses.{count, IsOwn}
use Rattle.iox_lanes_machine.specs.Alone.{IsAtConnection}
use Rattle.iox_lanes_machine.specs.Slots.{IsLoanAt}
use Rattle.iox_lanes_machine.specs.World.{World}

-- The slot of a publisher has a use: it is a loan, is in the history, or is at a connection, where it waits, lies aside, is borrowed, or is
-- in the completion ring.
abbrev pub IsUsed : World → PublisherLaneState → ℕ → Type 0
IsUsed m lane slot = (is_out (loan_of slot lane.port.book) ≡ true) ⊎ ((0 < count slot lane.port.book.history) ⊎ IsAtConnection m slot)

-- The number of slots that a publisher needs in the worst case: at each connection as many as may wait and be borrowed, which is one fewer
-- than its completion ring has cells; the history; and the loans.
abbrev pub worst_case : World → PublisherLaneState → ℕ
worst_case m lane = length lane.port.routes * (m.table.sizes.completion_cells - 1) + lane.port.book.kept + lane.port.book.most_loans

-- A loan is refused exactly if its publisher has as many loans as its loan limit allows, and finds no slot only if each slot has a use. The
-- slot that it gets is the publisher's own, wasn't a loan before, and is one now. If the publisher is below its loan limit, and has as many
-- slots as the worst case needs, the loan gets a slot.
pub record IsLent (m n : World) (place : ℕ) (lane : PublisherLaneState) (given : LoanAnswer) : Type 0 where
  pub refused : given ≡ loan.ExceedsMaxLoans → loans_out lane.port.book ≡ lane.port.book.most_loans
  pub refuses : loans_out lane.port.book ≡ lane.port.book.most_loans → given ≡ loan.ExceedsMaxLoans
  pub full : given ≡ loan.OutOfMemory → (slot : ℕ) → IsOwn lane.port.book slot → IsUsed m lane slot
  pub gives : (slot : ℕ) → given ≡ loan.Slot slot → IsOwn lane.port.book slot × (is_out (loan_of slot lane.port.book) ≡ false)
      × IsLoanAt n place slot
  pub permitted : loans_out lane.port.book < lane.port.book.most_loans → worst_case m lane ≤ length lane.port.book.uses → (slot : ℕ)
      × (given ≡ loan.Slot slot)

-- Each loan that a step ends has the answer that the state before the step demands (`IsLent`), as long as at most 2^63 steps were made, and
-- the numbers of slots are less than 2^64.
abbrev pub LoansLent : World → World → Type 0
LoansLent m n = m.moments ≤ 2 ^ 63 → (call : FinishedCall) (place : ℕ) (lane : PublisherLaneState) (given : LoanAnswer)
    → n.finished ≡ m.finished ++ call ∷ [] → call.party ≡ Publisher place → slice_get m.publishers place ≡ Some lane
    → call.answer ≡ answer.Lent given → lane.port.book.first + length lane.port.book.loans < 2 ^ 64 → IsLent m n place lane given
