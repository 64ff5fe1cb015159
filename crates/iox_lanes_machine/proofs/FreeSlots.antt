-- Slots that are no loan.
use Rattle.std.proofs.Common.{ℕ, ◌≡◌, ◌+◌, ◌-◌, ◌<◌, ◌≤◌, Bool, true, false, if◌then◌else◌, nat_lt, length, get_or, refl, ap, inl, inr}
use Rattle.std.proofs.Common.{arith}
use Rattle.std.proofs.lemmas.Bool.{cases_lt, ltb-false}
use Rattle.std.proofs.lemmas.List.{get_or_past}
use Rattle.iox_lanes_machine.specs.LanesParties.PublisherKeeping.{BookState, loan_of}
use Rattle.iox_lanes_machine.specs.LanesParties.declared.publisher.slot_book.LoanMark.TheVariants as mark
use Rattle.iox_lanes_machine.specs.LanesParties.Parties.{PublisherLaneState, is_out}

past_at : (book : BookState) (slot : ℕ) (b : Bool) → nat_lt slot book.first ≡ b → book.first + length book.loans ≤ slot
    → is_out (if b then mark.No else get_or book.loans (slot - book.first) mark.No) ≡ false
past_at book slot true e past = refl
past_at book slot false e past = ap is_out
    (get_or_past book.loans (slot - book.first) mark.No (omega (arith, ltb-false slot book.first e, past)))

-- a slot after those of a publisher is none of its loans
pub free_beyond : (slots : ℕ) (lane : PublisherLaneState) → lane.port.book.first + length lane.port.book.loans ≤ slots
    → ((slot : ℕ) → slot < slots → is_out (loan_of slot lane.port.book) ≡ false)
    → (slot : ℕ) → is_out (loan_of slot lane.port.book) ≡ false
free_beyond slots lane few free slot = elim (cases_lt slot slots) [
  | inl less ↦ free slot less
  | inr past ↦ past_at lane.port.book slot (nat_lt slot lane.port.book.first) refl (omega (arith, few, past))
]
