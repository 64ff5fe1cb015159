-- A publisher of which nothing was found keeps its record counted when it has fewer slots.
use Rattle.std.proofs.Common.{ℕ, zero, suc, ◌≡◌, ◌+◌, ◌-◌, ◌*◌, ◌/◌, ◌%◌, ◌<◌, ◌≤◌, ◌^◌, ◌==◌, if◌then◌else◌, Bool, true, false, nat_lt}
use Rattle.std.proofs.Common.{List, [], ◌∷◌, length, take, get_or, refl, sym, ◌∙◌, ap, inl, inr, arith}
use Rattle.std.proofs.lemmas.Bool.{ltb-true, ltb-false}
use Rattle.std.proofs.lemmas.Bool.Decides.{eqb_tells}
use Rattle.std.proofs.lemmas.List.{get_or-take, length-take-le, length-take}
use Rattle.std.proofs.Math.ListN.{get_or-eq_default}
use Rattle.std.proofs.Math.Nat.{mul-le-mul_left, mul_comm, mod-lt, mod-add-div, div-lt_iff_lt-mul}
use Rattle.iox_lanes_machine.specs.LanesParties.PublisherKeeping.{BookState, are_unused, resized}
use Rattle.iox_lanes_machine.specs.LanesParties.declared.publisher.slot_book.LoanMark.{LoanMark}
use Rattle.iox_lanes_machine.specs.LanesParties.declared.publisher.slot_book.LoanMark.TheVariants as mark
use Rattle.iox_lanes_machine.specs.LanesParties.Parties.{is_out}
use Rattle.iox_lanes_machine.specs.LedgerRooms.{loans_out, CountsLoans}
use Rattle.iox_lanes_machine.specs.LedgerUses.{one_if, count, total, entry, refers, references, refers_to, UsesCounted}
use Rattle.iox_lanes_machine.proofs.Entries.{choose_one, entry_is, refers_is, total_none, total_zero}

-- no slot has a use
unused_first : (c : ℕ) (cs : List ℕ) → are_unused (c ∷ cs) ≡ true → (c ≡ 0) × (are_unused cs ≡ true)
unused_first c cs h = by_test (c == 0) refl h
  where
    by_test : (b : Bool) → (c == 0) ≡ b → (if b then are_unused cs else false) ≡ true → (c ≡ 0) × (are_unused cs ≡ true)
    by_test false e h = absurd (cc (h))
    by_test true e h = elim (eqb_tells c 0) [
      | inl same ↦ (same.1, h)
      | inr other ↦ absurd (cc (sym e ∙ other.0))
    ]

unused_at : (uses : List ℕ) (k : ℕ) → are_unused uses ≡ true → get_or uses k 0 ≡ 0
unused_at [] k h = get_or-eq_default {A = ℕ} [] 0 {n = k} (omega arith)
unused_at (c ∷ cs) zero h = (unused_first c cs h).0
unused_at (c ∷ cs) (suc k) h = unused_at cs k (unused_first c cs h).1

unused_says : (uses : List ℕ) → ((k : ℕ) → get_or uses k 0 ≡ 0) → are_unused uses ≡ true
unused_says [] h = refl
unused_says (c ∷ cs) h = choose_one (c == 0) (are_unused cs) false (ap (λ (n : ℕ). n == 0) (h zero)) ∙ unused_says cs (λ k. h (suc k))

-- what a list says of each place, it says of each slot, and the other way round
pub all_entries : {X : Type 0} (first : ℕ) (xs : List X) (d : X) → ((k : ℕ) → get_or xs k d ≡ d) → (slot : ℕ) → entry first xs slot d ≡ d
all_entries {X} first xs d h slot = by_test (nat_lt slot first)
  where
    by_test : (b : Bool) → (if b then d else get_or xs (slot - first) d) ≡ d
    by_test true = refl
    by_test false = h (slot - first)

all_places : {X : Type 0} (first : ℕ) (xs : List X) (d : X) → ((slot : ℕ) → entry first xs slot d ≡ d) → (k : ℕ) → get_or xs k d ≡ d
all_places {X} first xs d h k =
    let back : k ≡ first + k - first = omega arith in
    ap (λ (i : ℕ). get_or xs i d) back ∙ sym (entry_is first (first + k) xs d (omega arith)) ∙ h (first + k)

-- so does its beginning
taken_or : {X : Type 0} (n : ℕ) (xs : List X) (d : X) → ((k : ℕ) → get_or xs k d ≡ d) → (k : ℕ) → get_or (take n xs) k d ≡ d
taken_or {X} n xs d h k = by_test (nat_lt k n) refl
  where
    by_test : (b : Bool) → nat_lt k n ≡ b → get_or (take n xs) k d ≡ d
    by_test true e = get_or-take n xs k d (ltb-true k n e) ∙ h k
    by_test false e = get_or-eq_default (take n xs) d (omega (arith, ltb-false k n e, length-take n xs))

-- a list in which no number is counted
pub uncounted : (xs : List ℕ) → ((x : ℕ) → count x xs ≡ 0) → xs ≡ []
uncounted [] h = refl
uncounted (x ∷ xs) h = elim (eqb_tells x x) [
  | inl same ↦ absurd (omega (arith, h x, ap one_if same.0))
  | inr other ↦ absurd (other.1 refl)
]

-- rows of marks, none of which is set
no_mark : (rows width : ℕ) (marks : List Bool) → length marks ≡ rows * width
    → ((row place : ℕ) → row < rows → place < width → get_or marks (row * width + place) false ≡ false) → (i : ℕ)
    → get_or marks i false ≡ false
no_mark rows zero marks size none i = get_or-eq_default marks false (omega (arith, size))
no_mark rows (suc v) marks size none i = by_test (nat_lt i (rows * suc v)) refl
  where
    by_test : (b : Bool) → nat_lt i (rows * suc v) ≡ b → get_or marks i false ≡ false
    by_test false e = get_or-eq_default marks false (omega (arith, size, ltb-false i (rows * suc v) e))
    by_test true e =
        let some : 0 < suc v = omega arith in
        let row : i / suc v < rows = (div-lt_iff_lt-mul some).1 (ltb-true i (rows * suc v) e) in
        let whole : i / suc v * suc v ≡ suc v * (i / suc v) = mul_comm (i / suc v) (suc v) in
        let is : i / suc v * suc v + i % suc v ≡ i = omega (arith, whole, mod-add-div i (suc v)) in
        ap (λ (n : ℕ). get_or marks n false) (sym is) ∙ none (i / suc v) (i % suc v) row (mod-lt i some)

refers_no : (first width : ℕ) (marks : List Bool) (place slot : ℕ) → ((i : ℕ) → get_or marks i false ≡ false)
    → refers first width marks place slot ≡ false
refers_no first width marks place slot none = by_first (nat_lt slot first)
  where
    by_width : (b : Bool) → (if b then get_or marks (place * width + (slot - first)) false else false) ≡ false
    by_width true = none (place * width + (slot - first))
    by_width false = refl

    by_first : (b : Bool) → (if b then false else if nat_lt (slot - first) width then get_or marks (place * width + (slot - first))
        false else false) ≡ false
    by_first true = refl
    by_first false = by_width (nat_lt (slot - first) width)

-- no place below one passes a test
total_below : (f : ℕ → Bool) (n : ℕ) → ((k : ℕ) → k < n → f k ≡ false) → total f n ≡ 0
total_below f zero h = refl
total_below f (suc n) h = omega (arith, total_below f n (λ k below. h k (omega (arith, below))), ap one_if (h n (omega arith)))

mark_is : (m : LoanMark) → is_out m ≡ false → m ≡ mark.No
mark_is mark.No e = refl
mark_is mark.Lent e = absurd (cc (e))
mark_is mark.Written e = absurd (cc (e))

-- A publisher's record of which nothing was found: it has no use of any slot.
pub record NoneFound (book : BookState) : Type 0 where
  pub history : book.history ≡ []
  pub marks : (i : ℕ) → get_or book.referred i false ≡ false
  pub uses : (i : ℕ) → get_or book.uses i 0 ≡ 0
  pub loans : (i : ℕ) → get_or book.loans i mark.No ≡ mark.No

-- no loan is out
abbrev pub Unlent : BookState → Type 0
Unlent book = (slot : ℕ) → is_out (entry book.first book.loans slot mark.No) ≡ false

pub none_found : (connections : ℕ) (book : BookState) → UsesCounted connections book → Unlent book → are_unused book.uses ≡ true
    → NoneFound book
none_found connections book k unlent h = record {
  history = uncounted book.history (λ x. omega (arith, (k.each x).counted, used x));
  marks = no_mark connections (length book.uses) book.referred k.rows (λ row place there within.
      let slot : ℕ = book.first + place in
      let back : place ≡ slot - book.first = omega arith in
      let none : references book.first (length book.uses) book.referred connections slot ≡ 0
      = omega (arith, (k.each slot).counted, used slot) in
      ap (λ (i : ℕ). get_or book.referred (row * length book.uses + i) false) back
      ∙ sym (refers_is book.first (length book.uses) book.referred row slot (omega arith) (omega (arith, within)))
      ∙ total_none (λ p. refers book.first (length book.uses) book.referred p slot) connections row none there);
  uses = λ i. unused_at book.uses i h;
  loans = all_places book.first book.loans mark.No (λ slot. mark_is (entry book.first book.loans slot mark.No) (unlent slot));
}
  where
    used : (slot : ℕ) → entry book.first book.uses slot 0 ≡ 0
    used slot = all_entries book.first book.uses 0 (λ i. unused_at book.uses i h) slot

-- none has a use where the history is empty and no connection has any slot
pub all_unused : (connections : ℕ) (book : BookState) → UsesCounted connections book → Unlent book → book.history ≡ []
    → ((place slot : ℕ) → place < connections → refers_to book place slot ≡ false) → are_unused book.uses ≡ true
all_unused connections book k unlent history lacks = unused_says book.uses (all_places book.first book.uses 0 (λ slot.
    let none : references book.first (length book.uses) book.referred connections slot ≡ 0 =
    total_below (λ p. refers book.first (length book.uses) book.referred p slot) connections (λ p below. lacks p slot below) in
    omega (arith, (k.each slot).counted, ap one_if (unlent slot), ap (λ (xs : List ℕ). count slot xs) history, none)))

pub never_refers : (book : BookState) (place slot : ℕ) → NoneFound book → refers_to book place slot ≡ false
never_refers book place slot none = refers_no book.first (length book.uses) book.referred place slot none.marks

-- with fewer slots it has no use of any either
pub none_left : (connections slots most : ℕ) (book : BookState) → NoneFound book → NoneFound (resized connections slots most book)
none_left connections slots most book none = record {
  history = none.history;
  marks = taken_or (connections * slots) book.referred false none.marks;
  uses = taken_or slots book.uses 0 none.uses;
  loans = taken_or slots book.loans mark.No none.loans;
}

pub none_unlent : (book : BookState) → NoneFound book → Unlent book
none_unlent book none slot = ap is_out (all_entries book.first book.loans mark.No none.loans slot)

pub none_uses : (book : BookState) (slot : ℕ) → NoneFound book → entry book.first book.uses slot 0 ≡ 0
none_uses book slot none = all_entries book.first book.uses 0 none.uses slot

pub none_counted : (connections : ℕ) (book : BookState) → NoneFound book → length book.loans ≡ length book.uses
    → length book.referred ≡ connections * length book.uses → connections < 2 ^ 62 → UsesCounted connections book
none_counted connections book none loans rows few = record {
  loans_each = loans;
  uses_each = refl;
  rows = rows;
  few = few;
  each = λ slot.
      let refs : references book.first (length book.uses) book.referred connections slot ≡ 0 =
      total_zero (λ p. refers book.first (length book.uses) book.referred p slot) connections
      (λ p. refers_no book.first (length book.uses) book.referred p slot none.marks) in
      let out : is_out (entry book.first book.loans slot mark.No) ≡ false = none_unlent book none slot in
      let past : count slot book.history ≡ 0 = ap (λ (xs : List ℕ). count slot xs) none.history in
      record {
        counted = omega (arith, none_uses book slot none, ap one_if out, past, refs);
        once = omega (arith, past);
        alone = λ yes. absurd (cc (sym yes ∙ out));
      };
}

pub resized_counted : (connections slots most : ℕ) (book : BookState) → slots ≤ length book.uses → NoneFound book
    → UsesCounted connections book → UsesCounted connections (resized connections slots most book)
resized_counted connections slots most book fits none k =
    let wide : length (take slots book.uses) ≡ slots = length-take-le slots book.uses fits in
    let loans : length (take slots book.loans) ≡ slots = length-take-le slots book.loans (omega (arith, fits, k.loans_each)) in
    let less : connections * slots ≤ connections * length book.uses = mul-le-mul_left connections fits in
    let rows : length (take (connections * slots) book.referred) ≡ connections * slots
    = length-take-le (connections * slots) book.referred (omega (arith, less, k.rows)) in
    none_counted connections (resized connections slots most book) (none_left connections slots most book none) (loans ∙ sym wide)
    (rows ∙ ap (λ (n : ℕ). connections * n) (sym wide)) k.few

pub resized_counts : (connections slots most : ℕ) (book : BookState) → book.out ≡ 0 → NoneFound book → CountsLoans book
    → CountsLoans (resized connections slots most book)
resized_counts connections slots most book out none k =
    let left : BookState = resized connections slots most book in
    let lent : loans_out left ≡ 0 = total_zero (λ index. is_out (get_or left.loans index mark.No)) (length left.loans)
    (λ index. ap is_out ((none_left connections slots most book none).loans index)) in
    record { out = λ few. out ∙ sym lent; few = omega (arith, out); kept = k.kept }
