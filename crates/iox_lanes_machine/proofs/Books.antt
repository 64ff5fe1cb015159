-- A publisher counts the uses of its slots, whatever changes.
use Rattle.std.proofs.Common.{ℕ, suc, ◌≡◌, ◌+◌, ◌-◌, ◌*◌, ◌<◌, ◌≤◌, ◌^◌, ◌==◌, Bool, true, false, nat_lt, if◌then◌else◌, List, [], ◌∷◌}
use Rattle.std.proofs.Common.{◌++◌, length, get_or, remove, Option, Some, None, refl, sym, ◌∙◌, ap, subst, inl, inr, arith}
use Rattle.std.proofs.lemmas.Bool.{ltb-true, ltb-false}
use Rattle.std.proofs.lemmas.Bool.Decides.{eqb_tells}
use Rattle.iox_lanes_parties.specs.QueuesSteps.Access.{successor}
use Rattle.iox_lanes_parties.specs.LanesBase.declared.calls.publisher.PublisherChange.TheVariants as change
use Rattle.iox_lanes_parties.specs.PublisherKeeping.{BookState, put_at, counted_up, counted_down, first_free, lent, lent_from, unlent}
use Rattle.iox_lanes_parties.specs.PublisherKeeping.{dropped, newest_of, remembered, referred_at, unreferred_at}
use Rattle.iox_lanes_parties.specs.declared.publisher.slot_book.LoanMark.{LoanMark}
use Rattle.iox_lanes_parties.specs.declared.publisher.slot_book.LoanMark.TheVariants as mark
use Rattle.iox_lanes_parties.specs.declared.publisher.slot_book.LoanAnswer.TheVariants as answer
use Rattle.iox_lanes_parties.specs.Parties.{is_out}
use Rattle.iox_lanes_machine.specs.LedgerUses.{one_if, count, entry, refers, references, IsCounted, AreCounted, UsesCounted, IsReferred}
use Rattle.iox_lanes_machine.specs.LedgerUses.{MayBeReferred, ChangesKeepCount}
use Rattle.iox_lanes_machine.proofs.Entries.{choose_one, choose_other, count_append, one_if_le, total_same, total_more, total_le}
use Rattle.iox_lanes_machine.proofs.Entries.{put_at_length, entry_is, entry_same, entry_other, entry_own, refers_own, refers_same}
use Rattle.iox_lanes_machine.proofs.Entries.{refers_other, row_place}

next : (n : ℕ) → n < 2 ^ 63 → successor n ≡ n + 1
next n h = omega arith

pub clause_is : (u u' : ℕ) (o o' : Bool) (h h' r r' : ℕ) → u ≡ u' → o ≡ o' → h ≡ h' → r ≡ r' → IsCounted u' o' h' r' → IsCounted u o h r
clause_is u u' o o' h h' r r' a b c d k = record {
  counted = omega (arith, a, ap one_if b, c, d, k.counted);
  once = omega (arith, c, k.once);
  alone = λ out. let x = k.alone (sym b ∙ out) in (omega (arith, c, x.0), omega (arith, d, x.1));
}

-- no slot has more than n uses
pub uses_few : (connections first slots : ℕ) (loans : List LoanMark) (history : List ℕ) (referred : List Bool) (uses : List ℕ)
    (slot : ℕ) → AreCounted connections first slots loans history referred uses → entry first uses slot 0 < 2 ^ 63
uses_few connections first slots loans history referred uses slot k =
    let was = k.each slot in
    omega (
      arith,
      was.counted,
      was.once,
      one_if_le (is_out (entry first loans slot mark.No)),
      total_le
          (λ place. refers first slots referred place slot) connections,
      k.few,
    )

-- one use more or fewer of a slot
pub up_same : (first slots v : ℕ) (uses : List ℕ) → length uses ≡ slots → first ≤ v → v < first + slots → entry first uses v 0 < 2 ^ 63
    → entry first (counted_up uses (v - first)) v 0 ≡ entry first uses v 0 + 1
up_same first slots v uses size le below few =
    let within : v < first + length uses = omega (arith, below, size) in
    let is : entry first uses v 0 ≡ get_or uses (v - first) 0 = entry_is first v uses 0 le in
    entry_same first v uses (successor (get_or uses (v - first) 0)) 0 le within ∙ ap successor (sym is) ∙ next (entry first uses v 0) few

down_same : (first slots v : ℕ) (uses : List ℕ) → length uses ≡ slots → first ≤ v → v < first + slots
    → entry first (counted_down uses (v - first)) v 0 ≡ entry first uses v 0 - 1
down_same first slots v uses size le below =
    let within : v < first + length uses = omega (arith, below, size) in
    let is : entry first uses v 0 ≡ get_or uses (v - first) 0 = entry_is first v uses 0 le in
    entry_same first v uses (get_or uses (v - first) 0 - 1) 0 le within ∙ ap (λ (n : ℕ). n - 1) (sym is)

-- a free slot is lent
lend_at : (connections first slots : ℕ) (loans : List LoanMark) (history : List ℕ) (referred : List Bool) (uses : List ℕ) (v : ℕ)
    → first ≤ v → v < first + slots → entry first uses v 0 ≡ 0
    → AreCounted connections first slots loans history referred uses
    → AreCounted connections first slots (put_at loans (v - first) mark.Lent) history referred (counted_up uses (v - first))
lend_at connections first slots loans history referred uses v le below free k = record {
  loans_each = put_at_length loans (v - first) mark.Lent ∙ k.loans_each;
  uses_each = put_at_length uses (v - first) (successor (get_or uses (v - first) 0)) ∙ k.uses_each;
  rows = k.rows;
  few = k.few;
  each = λ s. elim (eqb_tells v s) [
    | inl same ↦ subst (λ (x : ℕ). IsCounted (entry first (counted_up uses (v - first)) x 0)
        (is_out (entry first (put_at loans (v - first) mark.Lent) x mark.No)) (count x history)
        (references first slots referred connections x)) same.1 here
    | inr other ↦ clause_is _ _ _ _ _ _ _ _ (entry_other first v s uses (successor (get_or uses (v - first) 0)) 0 le other.1)
        (ap is_out (entry_other first v s loans mark.Lent mark.No le other.1)) refl refl (k.each s)
  ];
}
  where
    here : IsCounted (entry first (counted_up uses (v - first)) v 0)
        (is_out (entry first (put_at loans (v - first) mark.Lent) v mark.No)) (count v history)
        (references first slots referred connections v)
    here =
        let was = k.each v in
        let within : v < first + length loans = omega (arith, below, k.loans_each) in
        let out : is_out (entry first (put_at loans (v - first) mark.Lent) v mark.No) ≡ true
        = ap is_out (entry_same first v loans mark.Lent mark.No le within) in
        let up : entry first (counted_up uses (v - first)) v 0 ≡ entry first uses v 0 + 1
        = up_same first slots v uses k.uses_each le below (uses_few connections first slots loans history referred uses v k) in
        record {
          counted = omega (arith, up, free, was.counted, ap one_if out);
          once = was.once;
          alone = λ yes. (omega (arith, free, was.counted), omega (arith, free, was.counted));
        }

-- a loan stays one as it is written
mark_at : (connections first slots : ℕ) (loans : List LoanMark) (history : List ℕ) (referred : List Bool) (uses : List ℕ) (v : ℕ)
    → is_out (entry first loans v mark.No) ≡ true
    → AreCounted connections first slots loans history referred uses
    → AreCounted connections first slots (put_at loans (v - first) mark.Written) history referred uses
mark_at connections first slots loans history referred uses v out k = record {
  loans_each = put_at_length loans (v - first) mark.Written ∙ k.loans_each;
  uses_each = k.uses_each;
  rows = k.rows;
  few = k.few;
  each = λ s. clause_is _ _ _ _ _ _ _ _ refl (still s) refl refl (k.each s);
}
  where
    own : (first ≤ v) × (v < first + length loans)
    own = entry_own first v loans mark.No (λ none. cc (sym out ∙ ap is_out none))

    still : (s : ℕ) → is_out (entry first (put_at loans (v - first) mark.Written) s mark.No) ≡ is_out (entry first loans s mark.No)
    still s = elim (eqb_tells v s) [
      | inl same ↦ subst (λ (x : ℕ). is_out (entry first (put_at loans (v - first) mark.Written) x mark.No)
          ≡ is_out (entry first loans x mark.No)) same.1 (ap is_out (entry_same first v loans mark.Written mark.No own.0 own.1) ∙ sym out)
      | inr other ↦ ap is_out (entry_other first v s loans mark.Written mark.No own.0 other.1)
    ]

-- a loan goes into the history
move_at : (connections first slots : ℕ) (loans : List LoanMark) (history : List ℕ) (referred : List Bool) (uses : List ℕ) (v : ℕ)
    → is_out (entry first loans v mark.No) ≡ true
    → AreCounted connections first slots loans history referred uses
    → AreCounted connections first slots (put_at loans (v - first) mark.No) (history ++ v ∷ []) referred uses
move_at connections first slots loans history referred uses v out k = record {
  loans_each = put_at_length loans (v - first) mark.No ∙ k.loans_each;
  uses_each = k.uses_each;
  rows = k.rows;
  few = k.few;
  each = λ s. elim (eqb_tells v s) [
    | inl same ↦ subst (λ (x : ℕ). IsCounted (entry first uses x 0) (is_out (entry first (put_at loans (v - first) mark.No) x mark.No))
        (count x (history ++ v ∷ [])) (references first slots referred connections x)) same.1 (here (v == v) (eqb_here v) refl)
    | inr other ↦ clause_is _ _ _ _ _ _ _ _ refl (ap is_out (entry_other first v s loans mark.No mark.No own.0 other.1))
        (omega (arith, count_append s history (v ∷ []), ap one_if other.0)) refl (k.each s)
  ];
}
  where
    own : (first ≤ v) × (v < first + length loans)
    own = entry_own first v loans mark.No (λ none. cc (sym out ∙ ap is_out none))

    eqb_here : (n : ℕ) → (n == n) ≡ true
    eqb_here n = elim (eqb_tells n n) [
      | inl same ↦ same.0
      | inr other ↦ absurd (other.1 refl)
    ]

    here : (b : Bool) → b ≡ true → (v == v) ≡ b
        → IsCounted (entry first uses v 0) (is_out (entry first (put_at loans (v - first) mark.No) v mark.No))
        (count v (history ++ v ∷ [])) (references first slots referred connections v)
    here b on is =
        let was = k.each v in
        let none : is_out (entry first (put_at loans (v - first) mark.No) v mark.No) ≡ false
        = ap is_out (entry_same first v loans mark.No mark.No own.0 own.1) in
        let alone = was.alone out in
        let more : count v (history ++ v ∷ []) ≡ count v history + 1
        = omega (arith, count_append v history (v ∷ []), ap one_if (is ∙ on)) in
        record {
          counted = omega (arith, was.counted, ap one_if out, ap one_if none, more);
          once = omega (arith, alone.0, more);
          alone = λ yes. absurd (cc (sym yes ∙ none));
        }

-- a loan is given up
drop_at : (connections first slots : ℕ) (loans : List LoanMark) (history : List ℕ) (referred : List Bool) (uses : List ℕ) (v : ℕ)
    → is_out (entry first loans v mark.No) ≡ true
    → AreCounted connections first slots loans history referred uses
    → AreCounted connections first slots (put_at loans (v - first) mark.No) history referred (counted_down uses (v - first))
drop_at connections first slots loans history referred uses v out k = record {
  loans_each = put_at_length loans (v - first) mark.No ∙ k.loans_each;
  uses_each = put_at_length uses (v - first) (get_or uses (v - first) 0 - 1) ∙ k.uses_each;
  rows = k.rows;
  few = k.few;
  each = λ s. elim (eqb_tells v s) [
    | inl same ↦ subst (λ (x : ℕ). IsCounted (entry first (counted_down uses (v - first)) x 0)
        (is_out (entry first (put_at loans (v - first) mark.No) x mark.No)) (count x history)
        (references first slots referred connections x)) same.1 here
    | inr other ↦ clause_is _ _ _ _ _ _ _ _ (entry_other first v s uses (get_or uses (v - first) 0 - 1) 0 own.0 other.1)
        (ap is_out (entry_other first v s loans mark.No mark.No own.0 other.1)) refl refl (k.each s)
  ];
}
  where
    own : (first ≤ v) × (v < first + length loans)
    own = entry_own first v loans mark.No (λ none. cc (sym out ∙ ap is_out none))

    here : IsCounted (entry first (counted_down uses (v - first)) v 0)
        (is_out (entry first (put_at loans (v - first) mark.No) v mark.No)) (count v history)
        (references first slots referred connections v)
    here =
        let was = k.each v in
        let none : is_out (entry first (put_at loans (v - first) mark.No) v mark.No) ≡ false
        = ap is_out (entry_same first v loans mark.No mark.No own.0 own.1) in
        let down : entry first (counted_down uses (v - first)) v 0 ≡ entry first uses v 0 - 1
        = down_same first slots v uses k.uses_each own.0 (omega (arith, own.1, k.loans_each)) in
        record {
          counted = omega (arith, down, was.counted, ap one_if out, ap one_if none);
          once = was.once;
          alone = λ yes. absurd (cc (sym yes ∙ none));
        }

-- the oldest leaves the history
oldest_leaves : (connections first slots : ℕ) (loans : List LoanMark) (x : ℕ) (rest : List ℕ) (referred : List Bool) (uses : List ℕ)
    → AreCounted connections first slots loans (x ∷ rest) referred uses
    → AreCounted connections first slots loans rest referred (counted_down uses (x - first))
oldest_leaves connections first slots loans x rest referred uses k = record {
  loans_each = k.loans_each;
  uses_each = put_at_length uses (x - first) (get_or uses (x - first) 0 - 1) ∙ k.uses_each;
  rows = k.rows;
  few = k.few;
  each = λ s. elim (eqb_tells x s) [
    | inl same ↦ subst (λ (y : ℕ). IsCounted (entry first (counted_down uses (x - first)) y 0) (is_out (entry first loans y mark.No))
        (count y rest) (references first slots referred connections y)) same.1 here
    | inr other ↦ clause_is _ _ _ _ _ _ _ _ (entry_other first x s uses (get_or uses (x - first) 0 - 1) 0 own.0 other.1) refl
        (omega (arith, ap one_if other.0)) refl (k.each s)
  ];
}
  where
    itself : (x == x) ≡ true
    itself = elim (eqb_tells x x) [
      | inl same ↦ same.0
      | inr other ↦ absurd (other.1 refl)
    ]

    some : 0 < entry first uses x 0
    some = let was = k.each x in omega (arith, was.counted, ap one_if itself)

    own : (first ≤ x) × (x < first + length uses)
    own = entry_own first x uses 0 (λ none. absurd (omega (arith, none, some)))

    here : IsCounted (entry first (counted_down uses (x - first)) x 0) (is_out (entry first loans x mark.No)) (count x rest)
        (references first slots referred connections x)
    here =
        let was = k.each x in
        let down : entry first (counted_down uses (x - first)) x 0 ≡ entry first uses x 0 - 1
        = down_same first slots x uses k.uses_each own.0 (omega (arith, own.1, k.uses_each)) in
        record {
          counted = omega (arith, down, was.counted, ap one_if itself);
          once = omega (arith, was.once, ap one_if itself);
          alone = λ yes. let a = was.alone yes in (omega (arith, a.0, ap one_if itself), a.1);
        }

-- a connection is given a slot
refer_at : (connections first slots : ℕ) (loans : List LoanMark) (history : List ℕ) (referred : List Bool) (uses : List ℕ) (place v : ℕ)
    → place < connections → first ≤ v → v < first + slots → refers first slots referred place v ≡ false
    → is_out (entry first loans v mark.No) ≡ false
    → AreCounted connections first slots loans history referred uses
    → AreCounted connections first slots loans history (put_at referred (place * slots + (v - first)) true)
    (counted_up uses (v - first))
refer_at connections first slots loans history referred uses place v there le below lacks none k = record {
  loans_each = k.loans_each;
  uses_each = put_at_length uses (v - first) (successor (get_or uses (v - first) 0)) ∙ k.uses_each;
  rows = put_at_length referred (place * slots + (v - first)) true ∙ k.rows;
  few = k.few;
  each = λ s. elim (eqb_tells v s) [
    | inl same ↦ subst (λ (x : ℕ). IsCounted (entry first (counted_up uses (v - first)) x 0) (is_out (entry first loans x mark.No))
        (count x history) (references first slots (put_at referred (place * slots + (v - first)) true) connections x)) same.1 here
    | inr other ↦ clause_is _ _ _ _ _ _ _ _ (entry_other first v s uses (successor (get_or uses (v - first) 0)) 0 le other.1) refl refl
        (total_same (λ p. refers first slots (put_at referred (place * slots + (v - first)) true) p s)
        (λ p. refers first slots referred p s) connections
        (λ p. refers_other first slots referred place v p s true le below (λ both. other.1 (sym both.1)))) (k.each s)
  ];
}
  where
    within : place * slots + (v - first) < length referred
    within = omega (arith, k.rows, row_place first slots connections place v le below there)

    here : IsCounted (entry first (counted_up uses (v - first)) v 0) (is_out (entry first loans v mark.No)) (count v history)
        (references first slots (put_at referred (place * slots + (v - first)) true) connections v)
    here =
        let was = k.each v in
        let up : entry first (counted_up uses (v - first)) v 0 ≡ entry first uses v 0 + 1
        = up_same first slots v uses k.uses_each le below (uses_few connections first slots loans history referred uses v k) in
        let more : references first slots (put_at referred (place * slots + (v - first)) true) connections v
        ≡ references first slots referred connections v + 1 =
        total_more (λ p. refers first slots referred p v)
        (λ p. refers first slots (put_at referred (place * slots + (v - first)) true) p v) place connections there lacks
        (refers_same first slots referred place v true le below within)
        (λ p not. refers_other first slots referred place v p v true le below (λ both. not both.0)) in
        record {
          counted = omega (arith, up, more, was.counted);
          once = was.once;
          alone = λ yes. absurd (cc (sym yes ∙ none));
        }

-- a connection loses a slot
unrefer_at : (connections first slots : ℕ) (loans : List LoanMark) (history : List ℕ) (referred : List Bool) (uses : List ℕ)
    (place v : ℕ) → place < connections → first ≤ v → v < first + slots → refers first slots referred place v ≡ true
    → AreCounted connections first slots loans history referred uses
    → AreCounted connections first slots loans history (put_at referred (place * slots + (v - first)) false)
    (counted_down uses (v - first))
unrefer_at connections first slots loans history referred uses place v there le below has k = record {
  loans_each = k.loans_each;
  uses_each = put_at_length uses (v - first) (get_or uses (v - first) 0 - 1) ∙ k.uses_each;
  rows = put_at_length referred (place * slots + (v - first)) false ∙ k.rows;
  few = k.few;
  each = λ s. elim (eqb_tells v s) [
    | inl same ↦ subst (λ (x : ℕ). IsCounted (entry first (counted_down uses (v - first)) x 0) (is_out (entry first loans x mark.No))
        (count x history) (references first slots (put_at referred (place * slots + (v - first)) false) connections x)) same.1 here
    | inr other ↦ clause_is _ _ _ _ _ _ _ _ (entry_other first v s uses (get_or uses (v - first) 0 - 1) 0 le other.1) refl refl
        (total_same (λ p. refers first slots (put_at referred (place * slots + (v - first)) false) p s)
        (λ p. refers first slots referred p s) connections
        (λ p. refers_other first slots referred place v p s false le below (λ both. other.1 (sym both.1)))) (k.each s)
  ];
}
  where
    within : place * slots + (v - first) < length referred
    within = omega (arith, k.rows, row_place first slots connections place v le below there)

    here : IsCounted (entry first (counted_down uses (v - first)) v 0) (is_out (entry first loans v mark.No)) (count v history)
        (references first slots (put_at referred (place * slots + (v - first)) false) connections v)
    here =
        let was = k.each v in
        let down : entry first (counted_down uses (v - first)) v 0 ≡ entry first uses v 0 - 1
        = down_same first slots v uses k.uses_each le below in
        let more : references first slots referred connections v
        ≡ references first slots (put_at referred (place * slots + (v - first)) false) connections v + 1 =
        total_more (λ p. refers first slots (put_at referred (place * slots + (v - first)) false) p v)
        (λ p. refers first slots referred p v) place connections there
        (refers_same first slots referred place v false le below within) has
        (λ p not. sym (refers_other first slots referred place v p v false le below (λ both. not both.0))) in
        record {
          counted = omega (arith, down, more, was.counted);
          once = was.once;
          alone = λ yes. let a = was.alone yes in (a.0, omega (arith, a.1, more));
        }

-- the width is that of the list of uses
pub widen : (connections first slots : ℕ) (loans : List LoanMark) (history : List ℕ) (referred : List Bool) (uses : List ℕ)
    → AreCounted connections first slots loans history referred uses
    → AreCounted connections first (length uses) loans history referred uses
widen connections first slots loans history referred uses k
    = subst (λ (w : ℕ). AreCounted connections first w loans history referred uses) (sym k.uses_each) k

-- the first place without a use has none
pub first_free_is : (counts : List ℕ) (at index : ℕ) → first_free counts at ≡ Some index → (k : ℕ) × (index ≡ at + k)
    × (k < length counts) × (get_or counts k 0 ≡ 0)
first_free_is [] at index e = absurd (cc e)
first_free_is (x ∷ counts) at index e = elim (eqb_tells x 0) [
  | inl none ↦
      let is : at ≡ index = cc (sym (choose_one (x == 0) (Some at) (first_free counts (at + 1)) none.0) ∙ e) in
      (0, omega (arith, is), omega arith, none.1)
  | inr some ↦
      let more = first_free_is counts (at + 1) index (sym (choose_other (x == 0) (Some at) (first_free counts (at + 1)) some.0) ∙ e) in
      (suc more.0, omega (arith, more.1), omega (arith, more.2), more.3)
]

lent_counted : (connections : ℕ) (book : BookState) (at : Option ℕ) → first_free book.uses 0 ≡ at → UsesCounted connections book
    → UsesCounted connections (lent_from book at)
lent_counted connections book None e k
    = record { loans_each = k.loans_each; uses_each = k.uses_each; rows = k.rows; few = k.few; each = k.each }
lent_counted connections book (Some index) e k =
    let found = first_free_is book.uses 0 index e in
    let is : index ≡ found.0 = omega (arith, found.1) in
    let same : book.first + index - book.first ≡ index = omega arith in
    let le : book.first ≤ book.first + index = omega arith in
    let free : entry book.first book.uses (book.first + index) 0 ≡ 0
    = entry_is book.first (book.first + index) book.uses 0 le ∙ ap (λ (i : ℕ). get_or book.uses i 0) (same ∙ is) ∙ found.3 in
    subst (λ (i : ℕ). AreCounted connections book.first (length (counted_up book.uses i)) (put_at book.loans i mark.Lent) book.history
    book.referred (counted_up book.uses i)) same
    (widen connections book.first (length book.uses) _ _ _ _
    (lend_at connections book.first (length book.uses) book.loans book.history book.referred book.uses (book.first + index) le
    (omega (arith, is, found.2)) free k))

lend_counted : (connections : ℕ) (book : BookState) → UsesCounted connections book → UsesCounted connections (lent book)
lend_counted connections book k = by_test (nat_lt book.out book.most_loans)
  where
    by_test : (b : Bool) → UsesCounted connections
        (if b then lent_from book (first_free book.uses 0) else record book { answer = Some answer.ExceedsMaxLoans })
    by_test true = lent_counted connections book (first_free book.uses 0) refl k
    by_test false = record { loans_each = k.loans_each; uses_each = k.uses_each; rows = k.rows; few = k.few; each = k.each }

-- the history grows, and its oldest leaves where it is full
newest_counted : (connections first slots kept : ℕ) (loans : List LoanMark) (history : List ℕ) (referred : List Bool) (uses : List ℕ)
    (v : ℕ) (room : Bool) → nat_lt (length history) kept ≡ room → 0 < kept
    → is_out (entry first loans v mark.No) ≡ true → AreCounted connections first slots loans history referred uses
    → AreCounted connections first slots (put_at loans (v - first) mark.No)
    (if room then history ++ v ∷ [] else remove history 0 ++ v ∷ []) referred
    (if room then uses else counted_down uses (get_or history 0 0 - first))
newest_counted connections first slots kept loans history referred uses v true e some out k
    = move_at connections first slots loans history referred uses v out k
newest_counted connections first slots kept loans [] referred uses v false e some out k =
    let full : kept ≤ length {A = ℕ} [] = ltb-false (length {A = ℕ} []) kept e in
    absurd (omega (arith, full, some))
newest_counted connections first slots kept loans (x ∷ rest) referred uses v false e some out k =
    oldest_leaves connections first slots (put_at loans (v - first) mark.No) x (rest ++ v ∷ []) referred uses
    (move_at connections first slots loans (x ∷ rest) referred uses v out k)

remember_counted : (connections slot : ℕ) (book : BookState) → is_out (entry book.first book.loans slot mark.No) ≡ true
    → UsesCounted connections book → UsesCounted connections (remembered slot book)
remember_counted connections slot book out k = by_kept (nat_lt 0 book.kept) refl
  where
    by_room : (room : Bool) → nat_lt (length book.history) book.kept ≡ room → 0 < book.kept
        → UsesCounted connections
        (if room then record (unlent slot book) { history = book.history ++ slot ∷ [] } else record (unlent slot book)
        { history = remove book.history 0 ++ slot ∷ []; uses = counted_down book.uses (get_or book.history 0 0 - book.first) })
    by_room true e some = widen connections book.first (length book.uses) _ _ _ _
        (newest_counted connections book.first (length book.uses) book.kept book.loans book.history book.referred book.uses slot true e
        some out k)
    by_room false e some = widen connections book.first (length book.uses) _ _ _ _
        (newest_counted connections book.first (length book.uses) book.kept book.loans book.history book.referred book.uses slot false e
        some out k)

    by_kept : (b : Bool) → nat_lt 0 book.kept ≡ b
        → UsesCounted connections (if b then newest_of slot (unlent slot book) else dropped slot book)
    by_kept true e = by_room (nat_lt (length book.history) book.kept) refl (ltb-true 0 book.kept e)
    by_kept false e = widen connections book.first (length book.uses) _ _ _ _
        (drop_at connections book.first (length book.uses) book.loans book.history book.referred book.uses slot out k)

put_counted : (connections place slot : ℕ) (book : BookState) → MayBeReferred connections book place slot → UsesCounted connections book
    → UsesCounted connections (referred_at place slot book)
put_counted connections place slot book fits k =
    widen connections book.first (length book.uses) _ _ _ _
    (refer_at connections book.first (length book.uses) book.loans book.history book.referred book.uses place slot fits.there
    fits.own.above fits.own.below fits.lacks fits.not_out k)

lost_counted : (connections place slot : ℕ) (book : BookState) → IsReferred connections book place slot → UsesCounted connections book
    → UsesCounted connections (unreferred_at place slot book)
lost_counted connections place slot book fits k =
    let own = refers_own book.first (length book.uses) book.referred place slot fits.has in
    widen connections book.first (length book.uses) _ _ _ _
    (unrefer_at connections book.first (length book.uses) book.loans book.history book.referred book.uses place slot fits.there
    own.0 own.1 fits.has k)

pub changes_keep_count : ChangesKeepCount
changes_keep_count connections book change.Nothing fits k = k
changes_keep_count connections book change.Lend fits k = lend_counted connections book k
changes_keep_count connections book (change.Mark slot) fits k
    = mark_at connections book.first (length book.uses) book.loans book.history book.referred book.uses slot fits k
changes_keep_count connections book (change.Remember slot) fits k = remember_counted connections slot book fits k
changes_keep_count connections book (change.TakenBack place slot) fits k = lost_counted connections place slot book fits k
changes_keep_count connections book (change.Put place slot) fits k = put_counted connections place slot book fits k
changes_keep_count connections book (change.LeftOut place slot) fits k = lost_counted connections place slot book fits k
changes_keep_count connections book (change.DropLoan slot) fits k
    = widen connections book.first (length book.uses) _ _ _ _
    (drop_at connections book.first (length book.uses) book.loans book.history book.referred book.uses slot fits k)
