-- What is found before the first step keeps a publisher's record counted.
use Rattle.std.proofs.Common.{ℕ, ◌≡◌, ◌+◌, ◌-◌, ◌*◌, ◌<◌, ◌≤◌, ◌&&◌, ◌==◌, not, Bool, true, false, nat_lt, if◌then◌else◌, List, []}
use Rattle.std.proofs.Common.{◌∷◌, ◌++◌, length, get_or, refl, sym, ◌∙◌, ap, subst, inl, inr, arith, length-append}
use Rattle.std.proofs.lemmas.Bool.{ltb-true, ltb-false}
use Rattle.std.proofs.lemmas.Bool.Decides.{eqb_tells}
use Rattle.iox_lanes_parties.specs.QueuesSteps.Access.{successor}
use Rattle.iox_lanes_parties.specs.LanesBase.declared.calls.publisher.PublisherChange.TheVariants as change
use Rattle.iox_lanes_parties.specs.PublisherKeeping.{BookState, is_own, may_have, stands_in, may_remember, found_newest, referred_at}
use Rattle.iox_lanes_parties.specs.PublisherKeeping.{counted_up}
use Rattle.iox_lanes_parties.specs.declared.publisher.slot_book.LoanMark.{LoanMark}
use Rattle.iox_lanes_parties.specs.declared.publisher.slot_book.LoanMark.TheVariants as mark
use Rattle.iox_lanes_parties.specs.Parties.{is_out}
use Rattle.iox_lanes_parties.proofs.Rings.{and_left, and_right}
use Rattle.iox_lanes_machine.specs.LedgerRooms.{CountsLoans}
use Rattle.iox_lanes_machine.specs.LedgerUses.{one_if, count, entry, refers, refers_to, references, IsOwn, IsCounted, AreCounted}
use Rattle.iox_lanes_machine.specs.LedgerUses.{UsesCounted, MayBeReferred}
use Rattle.iox_lanes_machine.proofs.Books.{clause_is, up_same, uses_few, widen, changes_keep_count}
use Rattle.iox_lanes_machine.proofs.Changes.{refers_there, refers_elsewhere}
use Rattle.iox_lanes_machine.proofs.Entries.{count_append, put_at_length, entry_other, refers_is}
use Rattle.iox_lanes_machine.proofs.LoanCounts.{counts_after}

pub own_is : (slot : ℕ) (book : BookState) → is_own slot book ≡ true → IsOwn book slot
own_is slot book h = by_first (nat_lt slot book.first) refl h
  where
    by_first : (b : Bool) → nat_lt slot book.first ≡ b → (if b then false else nat_lt (slot - book.first) (length book.uses)) ≡ true
        → IsOwn book slot
    by_first true e h = absurd (cc (h))
    by_first false e h =
        let above : book.first ≤ slot = ltb-false slot book.first e in
        record { above = above; below = omega (arith, above, ltb-true (slot - book.first) (length book.uses) h) }

not_true : (b : Bool) → not b ≡ true → b ≡ false
not_true true h = absurd (cc (h))
not_true false h = refl

pub lacks_is : (connections place slot : ℕ) (book : BookState) → may_have place slot book ≡ true → place < connections
    → is_out (entry book.first book.loans slot mark.No) ≡ false → MayBeReferred connections book place slot
lacks_is connections place slot book h there out =
    let own = own_is slot book (and_left (is_own slot book)
    (not (get_or book.referred (place * length book.uses + (slot - book.first)) false)) h) in
    record {
      there = there;
      own = own;
      lacks = refers_is book.first (length book.uses) book.referred place slot own.above own.below ∙ not_true
          (get_or book.referred (place * length book.uses + (slot - book.first)) false)
          (and_right (is_own slot book) (not (get_or book.referred (place * length book.uses + (slot - book.first)) false)) h);
      not_out = out;
    }

-- a number that does not stand in a list is counted there never
pub none_stands : (slot : ℕ) (xs : List ℕ) → stands_in slot xs ≡ false → count slot xs ≡ 0
none_stands slot [] h = refl
none_stands slot (x ∷ xs) h = by_test (x == slot) refl h (λ rest. none_stands slot xs rest)
  where
    by_test : (b : Bool) → (x == slot) ≡ b → (if b then true else stands_in slot xs) ≡ false
        → (stands_in slot xs ≡ false → count slot xs ≡ 0) → one_if (x == slot) + count slot xs ≡ 0
    by_test true e h none = absurd (cc (h))
    by_test false e h none = omega (arith, ap one_if e, none h)

-- the history grows by a slot that did not stand there
newest_at : (connections first slots : ℕ) (loans : List LoanMark) (history : List ℕ) (referred : List Bool) (uses : List ℕ) (v : ℕ)
    → first ≤ v → v < first + slots → count v history ≡ 0 → is_out (entry first loans v mark.No) ≡ false
    → AreCounted connections first slots loans history referred uses
    → AreCounted connections first slots loans (history ++ v ∷ []) referred (counted_up uses (v - first))
newest_at connections first slots loans history referred uses v le below none out k = record {
  loans_each = k.loans_each;
  uses_each = put_at_length uses (v - first) (successor (get_or uses (v - first) 0)) ∙ k.uses_each;
  rows = k.rows;
  few = k.few;
  each = λ s. elim (eqb_tells v s) [
    | inl same ↦ subst (λ (x : ℕ). IsCounted (entry first (counted_up uses (v - first)) x 0) (is_out (entry first loans x mark.No))
        (count x (history ++ v ∷ [])) (references first slots referred connections x)) same.1 here
    | inr other ↦ clause_is _ _ _ _ _ _ _ _ (entry_other first v s uses (successor (get_or uses (v - first) 0)) 0 le other.1) refl
        (omega (arith, count_append s history (v ∷ []), ap one_if other.0)) refl (k.each s)
  ];
}
  where
    here : IsCounted (entry first (counted_up uses (v - first)) v 0) (is_out (entry first loans v mark.No))
        (count v (history ++ v ∷ [])) (references first slots referred connections v)
    here =
        let was = k.each v in
        let up : entry first (counted_up uses (v - first)) v 0 ≡ entry first uses v 0 + 1
        = up_same first slots v uses k.uses_each le below (uses_few connections first slots loans history referred uses v k) in
        let more : count v (history ++ v ∷ []) ≡ count v history + 1 = count_append v history (v ∷ []) ∙ omega (arith, itself v) in
        record {
          counted = omega (arith, up, more, was.counted);
          once = omega (arith, more, none);
          alone = λ yes. absurd (cc (sym yes ∙ out));
        }
      where
        itself : (x : ℕ) → count x (x ∷ []) ≡ 1
        itself x = elim (eqb_tells x x) [
          | inl same ↦ omega (arith, ap one_if same.0)
          | inr other ↦ absurd (other.1 refl)
        ]

-- a slot that may be found to be the newest of the history
pub record MayBeNewest (book : BookState) (slot : ℕ) : Type 0 where
  pub own : IsOwn book slot
  pub none : count slot book.history ≡ 0
  pub room : length book.history < book.kept

pub newest_is : (slot : ℕ) (book : BookState) → may_remember slot book ≡ true → MayBeNewest book slot
newest_is slot book h =
    let left = and_left (is_own slot book && not (stands_in slot book.history)) (nat_lt (length book.history) book.kept) h in
    record {
      own = own_is slot book (and_left (is_own slot book) (not (stands_in slot book.history)) left);
      none = none_stands slot book.history
          (not_true (stands_in slot book.history) (and_right (is_own slot book) (not (stands_in slot book.history)) left));
      room = ltb-true (length book.history) book.kept
          (and_right (is_own slot book && not (stands_in slot book.history)) (nat_lt (length book.history) book.kept) h);
    }

pub newest_counted : (connections slot : ℕ) (book : BookState) → may_remember slot book ≡ true
    → is_out (entry book.first book.loans slot mark.No) ≡ false → UsesCounted connections book
    → UsesCounted connections (found_newest slot book)
newest_counted connections slot book h out k =
    let is = newest_is slot book h in
    widen connections book.first (length book.uses) _ _ _ _
    (newest_at connections book.first (length book.uses) book.loans book.history book.referred book.uses slot is.own.above
    is.own.below is.none out k)

pub newest_counts : (slot : ℕ) (book : BookState) → may_remember slot book ≡ true → CountsLoans book → CountsLoans (found_newest slot book)
newest_counts slot book h k =
    let is = newest_is slot book h in
    record { out = k.out; few = k.few; kept = omega (arith, is.room, length-append book.history (slot ∷ [])) }

pub newest_refers : (slot : ℕ) (book : BookState) (place other : ℕ)
    → refers_to (found_newest slot book) place other ≡ refers_to book place other
newest_refers slot book place other
    = ap (λ (n : ℕ). refers book.first n book.referred place other)
    (put_at_length book.uses (slot - book.first) (successor (get_or book.uses (slot - book.first) 0)))

-- a connection that is found to have a slot
pub found_counted : (connections place slot : ℕ) (book : BookState) → MayBeReferred connections book place slot
    → UsesCounted connections book → UsesCounted connections (referred_at place slot book)
found_counted connections place slot book fits k = changes_keep_count connections book (change.Put place slot) fits k

pub found_counts : (connections place slot : ℕ) (book : BookState) → MayBeReferred connections book place slot
    → UsesCounted connections book → CountsLoans book → CountsLoans (referred_at place slot book)
found_counts connections place slot book fits c k = counts_after connections book (change.Put place slot) fits c k

pub found_refers : (connections place slot : ℕ) (book : BookState) → MayBeReferred connections book place slot
    → UsesCounted connections book → (other : ℕ)
    → one_if (refers_to (referred_at place slot book) place other) ≡ one_if (refers_to book place other) + count other (slot ∷ [])
found_refers connections place slot book fits k other
    = omega (arith, refers_there connections place book (change.Put place slot) refl fits k other)

pub found_refers_elsewhere : (connections place slot : ℕ) (book : BookState) → MayBeReferred connections book place slot
    → (at other : ℕ) → (at ≡ place → ⊥) → refers_to (referred_at place slot book) at other ≡ refers_to book at other
found_refers_elsewhere connections place slot book fits at other not
    = refers_elsewhere connections place book (change.Put place slot) refl fits at other not
