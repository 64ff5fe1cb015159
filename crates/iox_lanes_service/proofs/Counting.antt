-- How many different messages of a publisher are in use: as many as slots of it are.
use Rattle.std.proofs.Common.{ℕ, zero, suc, ◌≡◌, ◌+◌, ◌-◌, ◌<◌, ◌≤◌, ◌==◌, ◌||◌, cond, Bool, true, false, nat_le, List, [], ◌∷◌}
use Rattle.std.proofs.Common.{map, refl, sym, ◌∙◌, ap, if◌then◌else◌, inl, inr, arith}
use Rattle.std.specs.Prelude.{filter}
use Rattle.std.proofs.lemmas.Bool.{cases_lt, eq-eqb, ne_eqb}
use Rattle.std.proofs.lemmas.Bool.Decides.{eqb_tells}
use Rattle.iox_lanes_machine.specs.LedgerUses.{count, one_if, total}
use Rattle.iox_lanes_machine.proofs.Entries.{total_same, total_more, total_le}
use Rattle.iox_lanes_service.proofs.Beside.{either_left, either_right}
use Rattle.iox_lanes_service.proofs.Tables.{one_same}
use Rattle.iox_machine.specs.Lending.{how_many}
use Rattle.iox_machine.specs.Table.{contains}

-- what is counted is contained
pub counted_contained : (xs : List ℕ) (x : ℕ) → 0 < count x xs → contains xs x ≡ true
counted_contained [] x some = absurd (omega (arith, some))
counted_contained (y ∷ xs) x some = elim (eqb_tells y x) [
  | inl same ↦ either_left (y == x) (contains xs x) same.0
  | inr apart ↦ either_right (y == x) (contains xs x) (counted_contained xs x (omega (arith, some, ap one_if apart.0)))
]

pub contained_counted : (xs : List ℕ) (x : ℕ) → contains xs x ≡ true → 0 < count x xs
contained_counted [] x is = absurd (cc is)
contained_counted (y ∷ xs) x is = elim (eqb_tells y x) [
  | inl same ↦ omega (arith, ap one_if same.0)
  | inr apart ↦ omega (arith, contained_counted xs x (sym (ap (λ (b : Bool). b || contains xs x) apart.0) ∙ is))
]

-- under names that are apart as many are there
contains_named : (name : ℕ → ℕ) (xs : List ℕ) (x : ℕ) → ((y : ℕ) → 0 < count y xs → name y ≡ name x → y ≡ x)
    → contains (map name xs) (name x) ≡ contains xs x
contains_named name [] x apart = refl
contains_named name (y ∷ xs) x apart =
    ap (λ (b : Bool). b || contains (map name xs) (name x)) (elim (eqb_tells y x) [
      | inl same ↦ eq-eqb (name y) (name x) (ap name same.1) ∙ sym same.0
      | inr off ↦ ne_eqb (name y) (name x) (λ e. off.1 (apart y (omega (arith, one_same y)) e)) ∙ sym off.0
    ])
    ∙ ap (λ (b : Bool). (y == x) || b) (contains_named name xs x (λ z some. apart z (omega (arith, some))))

pub many_named : (name : ℕ → ℕ) (xs : List ℕ)
    → ((y z : ℕ) → 0 < count y xs → 0 < count z xs → name y ≡ name z → y ≡ z) → how_many (map name xs) ≡ how_many xs
many_named name [] apart = refl
many_named name (x ∷ xs) apart =
    ap (λ (b : Bool). if b then how_many (map name xs) else 1 + how_many (map name xs))
    (contains_named name xs x (λ y some. apart y x (omega (arith, some)) (omega (arith, one_same x))))
    ∙ ap (λ (k : ℕ). if contains xs x then k else 1 + k)
    (many_named name xs (λ y z some other. apart y z (omega (arith, some)) (omega (arith, other))))

-- as many as numbers of a range are there
pub many_is : (first n : ℕ) (xs : List ℕ) → ((x : ℕ) → 0 < count x xs → (first ≤ x) × (x < first + n))
    → how_many xs ≡ total (λ index. contains xs (first + index)) n
many_is first n [] within = sym (none n)
  where
    none : (k : ℕ) → total (λ index. false) k ≡ 0
    none zero = refl
    none (suc k) = omega (arith, none k)
many_is first n (x ∷ xs) within =
    by_test (contains xs x) refl (many_is first n xs (λ y some. within y (omega (arith, some))))
  where
    own : (first ≤ x) × (x < first + n)
    own = within x (omega (arith, one_same x))

    by_test : (b : Bool) → contains xs x ≡ b → how_many xs ≡ total (λ index. contains xs (first + index)) n
        → (if b then how_many xs else 1 + how_many xs) ≡ total (λ index. contains (x ∷ xs) (first + index)) n
    by_test true e rest = rest ∙ total_same (λ index. contains xs (first + index)) (λ index. contains (x ∷ xs) (first + index)) n
        (λ index. same (first + index))
      where
        same : (y : ℕ) → contains xs y ≡ contains (x ∷ xs) y
        same y = elim (eqb_tells x y) [
          | inl it ↦ sym (ap (contains xs) it.1) ∙ e ∙ sym (either_left (x == y) (contains xs y) it.0)
          | inr off ↦ sym (ap (λ (b : Bool). b || contains xs y) off.0)
        ]
    by_test false e rest =
        let more = total_more (λ index. contains xs (first + index)) (λ index. contains (x ∷ xs) (first + index)) (x - first) n
        (omega (arith, own.0, own.1))
        (ap (contains xs) (omega (arith, own.0)) ∙ e)
        (ap (contains (x ∷ xs)) (omega (arith, own.0)) ∙ either_left (x == x) (contains xs x) (eq-eqb x x refl))
        (λ index apart. ap (λ (b : Bool). b || contains xs (first + index))
        (ne_eqb x (first + index) (λ e. apart (omega (arith, e, own.0))))) in
        omega (arith, rest, more)

-- all of a range, or not all
pub total_all : (test : ℕ → Bool) (n : ℕ) → ((index : ℕ) → index < n → test index ≡ true) → total test n ≡ n
total_all test zero each = refl
total_all test (suc n) each =
    omega (arith, total_all test n (λ index below. each index (omega (arith, below))), ap one_if (each n (omega arith)))

pub total_misses : (test : ℕ → Bool) (n index : ℕ) → index < n → test index ≡ false → total test n < n
total_misses test zero index below off = absurd (omega (arith, below))
total_misses test (suc n) index below off = elim (cases_lt index n) [
  | inl lt ↦ omega (arith, total_misses test n index lt off, most (test n))
  | inr ge ↦ omega (arith, total_le test n, ap one_if (ap test (same ge) ∙ off))
]
  where
    same : n ≤ index → n ≡ index
    same ge = omega (arith, below, ge)

    most : (b : Bool) → one_if b ≤ 1
    most true = omega arith
    most false = omega arith

-- a filter that all of them pass
pub filter_keeps : (name : ℕ → ℕ) (first : ℕ) (xs : List ℕ) → ((x : ℕ) → 0 < count x xs → first ≤ name x)
    → filter (nat_le first) (map name xs) ≡ map name xs
filter_keeps name first [] each = refl
filter_keeps name first (x ∷ xs) each =
    ap (λ (b : Bool). cond b (name x ∷ filter (nat_le first) (map name xs)) (filter (nat_le first) (map name xs)))
    (passes (name x) (each x (omega (arith, one_same x))))
    ∙ ap (λ (rest : List ℕ). name x ∷ rest) (filter_keeps name first xs (λ y some. each y (omega (arith, some))))
  where
    passes : (k : ℕ) → first ≤ k → nat_le first k ≡ true
    passes k h = grind (arith, h)
