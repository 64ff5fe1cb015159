-- Loans are counted, step by step, and the history is no longer than it may be.
use Rattle.std.proofs.Common.{ℕ, ◌≡◌, ◌+◌, ◌-◌, ◌<◌, ◌≤◌, Bool, true, false, nat_lt, if◌then◌else◌, List, [], ◌∷◌, ◌++◌, length, get_or}
use Rattle.std.proofs.Common.{remove, Option, Some, None, refl, sym, ◌∙◌, ap, inl, inr, arith}
use Rattle.std.proofs.lemmas.Bool.{ltb-true, ltb-false}
use Rattle.std.proofs.lemmas.Bool.Decides.{eqb_tells}
use Rattle.iox_lanes_parties.specs.LanesBase.declared.calls.publisher.PublisherChange.{PublisherChange}
use Rattle.iox_lanes_parties.specs.LanesBase.declared.calls.publisher.PublisherChange.TheVariants as change
use Rattle.iox_lanes_parties.specs.PublisherKeeping.{BookState, put_at, changed, lent_from, first_free, newest_of, unlent, dropped}
use Rattle.iox_lanes_parties.specs.PublisherKeeping.{remembered, counted_down}
use Rattle.iox_lanes_parties.specs.declared.publisher.slot_book.LoanMark.{LoanMark}
use Rattle.iox_lanes_parties.specs.declared.publisher.slot_book.LoanMark.TheVariants as mark
use Rattle.iox_lanes_parties.specs.declared.publisher.slot_book.LoanAnswer.TheVariants as answer
use Rattle.iox_lanes_parties.specs.Parties.{is_out}
use Rattle.iox_lanes_machine.specs.LedgerRooms.{loans_out, CountsLoans}
use Rattle.iox_lanes_machine.specs.LedgerUses.{one_if, entry, total, UsesCounted, ChangeFits}
use Rattle.iox_lanes_machine.proofs.Books.{first_free_is}
use Rattle.iox_lanes_machine.proofs.Entries.{put_at_length, put_at_same, put_at_other, total_same, total_more, total_le, entry_is}
use Rattle.iox_lanes_machine.proofs.Entries.{entry_own}

-- how many marks of a list are loans
abbrev out_of : List LoanMark → ℕ
out_of loans = total (λ index. is_out (get_or loans index mark.No)) (length loans)

-- another mark at a place
marked_length : (loans : List LoanMark) (at : ℕ) (x : LoanMark)
    → out_of (put_at loans at x) ≡ total (λ index. is_out (get_or (put_at loans at x) index mark.No)) (length loans)
marked_length loans at x = ap (total (λ index. is_out (get_or (put_at loans at x) index mark.No))) (put_at_length loans at x)

one_more : (loans : List LoanMark) (at : ℕ) → at < length loans → is_out (get_or loans at mark.No) ≡ false
    → out_of (put_at loans at mark.Lent) ≡ out_of loans + 1
one_more loans at below off =
    marked_length loans at mark.Lent
    ∙ total_more (λ index. is_out (get_or loans index mark.No)) (λ index. is_out (get_or (put_at loans at mark.Lent) index mark.No)) at
    (length loans) below off
    (ap is_out (put_at_same loans at mark.Lent mark.No below)) (λ k not. ap is_out (put_at_other loans at k mark.Lent mark.No not))

one_fewer : (loans : List LoanMark) (at : ℕ) → at < length loans → is_out (get_or loans at mark.No) ≡ true
    → out_of loans ≡ out_of (put_at loans at mark.No) + 1
one_fewer loans at below on =
    total_more (λ index. is_out (get_or (put_at loans at mark.No) index mark.No)) (λ index. is_out (get_or loans index mark.No)) at
    (length loans) below
    (ap is_out (put_at_same loans at mark.No mark.No below)) on (λ k not. sym (ap is_out (put_at_other loans at k mark.No mark.No not)))
    ∙ ap (λ (n : ℕ). n + 1) (sym (marked_length loans at mark.No))

as_many : (loans : List LoanMark) (at : ℕ) → at < length loans → is_out (get_or loans at mark.No) ≡ true
    → out_of (put_at loans at mark.Written) ≡ out_of loans
as_many loans at below on = marked_length loans at mark.Written ∙ total_same _ _ (length loans) (λ k. elim (eqb_tells k at) [
  | inl same ↦ ap (λ (i : ℕ). is_out (get_or (put_at loans at mark.Written) i mark.No)) same.1 ∙ ap is_out
      (put_at_same loans at mark.Written mark.No below) ∙ sym on ∙ ap (λ (i : ℕ). is_out (get_or loans i mark.No)) (sym same.1)
  | inr other ↦ ap is_out (put_at_other loans at k mark.Written mark.No other.1)
])

-- a loan stands at its place in the list
record StandsAt (book : BookState) (slot : ℕ) : Type 0 where
  below : slot - book.first < length book.loans
  on : is_out (get_or book.loans (slot - book.first) mark.No) ≡ true

stands : (book : BookState) (slot : ℕ) → is_out (entry book.first book.loans slot mark.No) ≡ true → StandsAt book slot
stands book slot out =
    let own = entry_own book.first slot book.loans mark.No (λ none. cc (sym out ∙ ap is_out none)) in
    record { below = omega (arith, own.0, own.1); on = ap is_out (sym (entry_is book.first slot book.loans mark.No own.0)) ∙ out }

-- a free slot is lent
lend_counts : (connections : ℕ) (book : BookState) (at : Option ℕ) → first_free book.uses 0 ≡ at → book.out < book.most_loans
    → UsesCounted connections book → CountsLoans book → CountsLoans (lent_from book at)
lend_counts connections book None e room c k = record { out = k.out; few = k.few; kept = k.kept }
lend_counts connections book (Some index) e room c k =
    let found = first_free_is book.uses 0 index e in
    let is : found.0 ≡ index = omega (arith, found.1) in
    let below : index < length book.loans = omega (arith, is, found.2, c.loans_each) in
    let le : book.first ≤ book.first + index = omega arith in
    let at_index : book.first + index - book.first ≡ index = omega arith in
    let uses_is : entry book.first book.uses (book.first + index) 0 ≡ get_or book.uses index 0
    = entry_is book.first (book.first + index) book.uses 0 le ∙ ap (λ (i : ℕ). get_or book.uses i 0) at_index in
    let loan_is : is_out (entry book.first book.loans (book.first + index) mark.No) ≡ is_out (get_or book.loans index mark.No)
    = ap is_out (entry_is book.first (book.first + index) book.loans mark.No le ∙ ap (λ (i : ℕ). get_or book.loans i mark.No)
    at_index) in
    let free : get_or book.uses index 0 ≡ 0 = ap (λ (i : ℕ). get_or book.uses i 0) (sym is) ∙ found.3 in
    let off : is_out (get_or book.loans index mark.No) ≡ false
    = none (is_out (get_or book.loans index mark.No))
    (omega (arith, (c.each (book.first + index)).counted, uses_is, free, ap one_if loan_is)) in
    let more = one_more book.loans index below off in
    let most : out_of (put_at book.loans index mark.Lent) ≤ length (put_at book.loans index mark.Lent)
    = total_le (λ i. is_out (get_or (put_at book.loans index mark.Lent) i mark.No)) (length (put_at book.loans index mark.Lent)) in
    let same : length (put_at book.loans index mark.Lent) ≡ length book.loans = put_at_length book.loans index mark.Lent in
    record {
      out = λ small.
          let was : book.out ≡ loans_out book = k.out (omega (arith, small, same)) in
          omega (arith, was, more, most, same, small);
      few = omega (arith, room);
      kept = k.kept;
    }
  where
    none : (b : Bool) → one_if b ≡ 0 → b ≡ false
    none true h = absurd (omega (arith, h))
    none false h = refl

-- a loan is one no longer
unlent_counts : (book : BookState) (slot : ℕ) → is_out (entry book.first book.loans slot mark.No) ≡ true → CountsLoans book
    → CountsLoans (unlent slot book)
unlent_counts book slot out k =
    let at = stands book slot out in
    let fewer = one_fewer book.loans (slot - book.first) at.below at.on in
    record {
      out = λ small.
          let was : book.out ≡ loans_out book = k.out (omega (arith, small, put_at_length book.loans (slot - book.first) mark.No)) in
          omega (arith, was, fewer);
      few = omega (arith, k.few);
      kept = k.kept;
    }

-- it becomes the newest of the history
removed_length : (xs : List ℕ) → 0 < length xs → length (remove xs 0) + 1 ≡ length xs
removed_length [] some = absurd (omega (arith, some))
removed_length (x ∷ xs) some = omega arith

append_length : (xs : List ℕ) (x : ℕ) → length (xs ++ x ∷ []) ≡ length xs + 1
append_length [] x = refl
append_length (y ∷ xs) x = omega (arith, append_length xs x)

remember_counts : (slot : ℕ) (book : BookState) → is_out (entry book.first book.loans slot mark.No) ≡ true → CountsLoans book
    → CountsLoans (remembered slot book)
remember_counts slot book out k = by_kept (nat_lt 0 book.kept) refl
  where
    gone : CountsLoans (unlent slot book)
    gone = unlent_counts book slot out k

    by_room : (b : Bool) → nat_lt (length book.history) book.kept ≡ b → 0 < book.kept
        → CountsLoans (if b then record (unlent slot book) { history = book.history ++ slot ∷ [] } else record (unlent slot book)
        { history = remove book.history 0 ++ slot ∷ []; uses = counted_down book.uses (get_or book.history 0 0 - book.first) })
    by_room true e some = record {
      out = gone.out;
      few = gone.few;
      kept
          = omega (arith, append_length book.history slot, ltb-true (length book.history) book.kept e);
    }
    by_room false e some =
        let full : book.kept ≤ length book.history = ltb-false (length book.history) book.kept e in
        record {
          out = gone.out;
          few = gone.few;
          kept
              = omega (arith, append_length (remove book.history 0) slot, removed_length book.history (omega (arith, full, some)), k.kept);
        }

    by_kept : (b : Bool) → nat_lt 0 book.kept ≡ b → CountsLoans (if b then newest_of slot (unlent slot book) else dropped slot book)
    by_kept true e = by_room (nat_lt (length book.history) book.kept) refl (ltb-true 0 book.kept e)
    by_kept false e = record { out = gone.out; few = gone.few; kept = gone.kept }

pub counts_after : (connections : ℕ) (book : BookState) (c : PublisherChange) → ChangeFits connections book c
    → UsesCounted connections book → CountsLoans book → CountsLoans (changed c book)
counts_after connections book change.Nothing fits c k = k
counts_after connections book change.Lend fits c k = by_test (nat_lt book.out book.most_loans) refl
  where
    by_test : (b : Bool) → nat_lt book.out book.most_loans ≡ b
        → CountsLoans (if b then lent_from book (first_free book.uses 0) else record book { answer = Some answer.ExceedsMaxLoans })
    by_test true e = lend_counts connections book (first_free book.uses 0) refl (ltb-true book.out book.most_loans e) c k
    by_test false e = record { out = k.out; few = k.few; kept = k.kept }
counts_after connections book (change.Mark slot) fits c k =
    let at = stands book slot fits in
    let same = as_many book.loans (slot - book.first) at.below at.on in
    record {
      out = λ small. k.out (omega (arith, small, put_at_length book.loans (slot - book.first) mark.Written)) ∙ sym same;
      few = k.few;
      kept = k.kept;
    }
counts_after connections book (change.Remember slot) fits c k = remember_counts slot book fits k
counts_after connections book (change.TakenBack place slot) fits c k = record { out = k.out; few = k.few; kept = k.kept }
counts_after connections book (change.Put place slot) fits c k = record { out = k.out; few = k.few; kept = k.kept }
counts_after connections book (change.LeftOut place slot) fits c k = record { out = k.out; few = k.few; kept = k.kept }
counts_after connections book (change.DropLoan slot) fits c k =
    let gone = unlent_counts book slot fits k in
    record { out = gone.out; few = gone.few; kept = gone.kept }
