-- Whether something is so of some of a list, item by item.
use Rattle.std.proofs.Common.{rules, arith, ℕ, zero, suc, ◌≡◌, ◌+◌, ◌<◌, ◌≤◌, ◌||◌, ◌∷◌, [], Bool, true, false, nat_lt, List, length}
use Rattle.std.proofs.Common.{get_or, Option, None, Some, slice_get, refl, ap, sym, ◌∙◌}
use Rattle.std.specs.List.{list_any}

pub or_true : (b : Bool) → (b || true) ≡ true
or_true true = refl
or_true false = refl

-- what is so of some of what is left is so of some of all: the first item decides, or those after it
pub any_here : {X : Type 0} (test : X → Bool) (all rest after : List X) (x : X) → list_any test rest ≡ list_any test all
    → rest ≡ x ∷ after → test x ≡ true → list_any test all ≡ true
any_here test all rest after x same left is = sym same ∙ ap (list_any test) left ∙ ap (λ b. b || list_any test after) is

pub any_later : {X : Type 0} (test : X → Bool) (all rest after : List X) (x : X) → list_any test rest ≡ list_any test all
    → rest ≡ x ∷ after → test x ≡ false → list_any test after ≡ list_any test all
any_later test all rest after x same left not = sym (sym same ∙ ap (list_any test) left ∙ ap (λ b. b || list_any test after) not)

pub any_over : {X : Type 0} (test : X → Bool) (all rest : List X) → list_any test rest ≡ list_any test all → rest ≡ []
    → list_any test all ≡ false
any_over test all rest same left = sym same ∙ ap (list_any test) left

-- it is so of none of the first n places
abbrev pub NoneBelow : {X : Type 0} → (X → Bool) → X → List X → ℕ → Type 0
NoneBelow test blank list count = (k : ℕ) → k < count → test (get_or list k blank) ≡ false

pub some_is : {X : Type 0} (test : X → Bool) (blank : X) (list : List X) (k : ℕ) → test blank ≡ false
    → test (get_or list k blank) ≡ true → list_any test list ≡ true
some_is test blank [] k not is = cc
some_is test blank (x ∷ rest) zero not is = rw is refl
some_is test blank (x ∷ rest) (suc k) not is = rw (some_is test blank rest k not is) (or_true (test x))

pub none_is : {X : Type 0} (test : X → Bool) (blank : X) (list : List X) (count : ℕ) → length list ≤ count
    → NoneBelow test blank list count → list_any test list ≡ false
none_is test blank [] count few none = refl
none_is test blank (x ∷ rest) zero few none = absurd (omega (arith, few))
none_is test blank (x ∷ rest) (suc count) few none =
    rw (none zero (omega arith)) (none_is test blank rest count (omega (arith, few)) (λ k below. none (suc k) (omega (arith, below))))

pub none_more : {X : Type 0} (test : X → Bool) (blank : X) (list : List X) (count : ℕ) → NoneBelow test blank list count
    → test (get_or list count blank) ≡ false → NoneBelow test blank list (count + 1)
none_more test blank list count none last k below = at (nat_lt k count) refl
  where
    at : (less : Bool) → nat_lt k count ≡ less → test (get_or list k blank) ≡ false
    at true less = none k (grind (arith, less))
    at false less =
        let same : k ≡ count = grind (arith, less, below) in
        ap (λ n. test (get_or list n blank)) same ∙ last

-- what is so of none that is reached is so of none, where nothing stands after
pub none_reached : {X : Type 0} (test : X → Bool) (blank : X) (list : List X) (count : ℕ) → test blank ≡ false
    → ((k : ℕ) → count ≤ k → get_or list k blank ≡ blank) → NoneBelow test blank list count → list_any test list ≡ false
none_reached test blank list count not behind none
    = none_is test blank list (length list + count) (omega arith) (λ k below. at k (nat_lt k count) refl)
  where
    at : (k : ℕ) (less : Bool) → nat_lt k count ≡ less → test (get_or list k blank) ≡ false
    at k true less = none k (grind (arith, less))
    at k false less = ap test (behind k (grind (arith, less))) ∙ not

-- whether it is so of an item, if there is one
abbrev pub is_so : {X : Type 0} → (X → Bool) → Option X → Bool
is_so test None = false
is_so test (Some x) = test x

-- it is so of none of the first n items
abbrev pub NoneGot : {X : Type 0} → (X → Bool) → List X → ℕ → Type 0
NoneGot test list count = (k : ℕ) → k < count → is_so test (slice_get list k) ≡ false

pub some_got : {X : Type 0} (test : X → Bool) (list : List X) (k : ℕ) → is_so test (slice_get list k) ≡ true → list_any test list ≡ true
some_got test [] k is = search (rules, is)
some_got test (x ∷ rest) zero is = rw is refl
some_got test (x ∷ rest) (suc k) is = rw (some_got test rest k is) (or_true (test x))

pub none_got : {X : Type 0} (test : X → Bool) (list : List X) (count : ℕ) → length list ≤ count → NoneGot test list count
    → list_any test list ≡ false
none_got test [] count few none = refl
none_got test (x ∷ rest) zero few none = absurd (omega (arith, few))
none_got test (x ∷ rest) (suc count) few none =
    rw (none zero (omega arith)) (none_got test rest count (omega (arith, few)) (λ k below. none (suc k) (omega (arith, below))))

pub got_more : {X : Type 0} (test : X → Bool) (list : List X) (count : ℕ) → NoneGot test list count
    → is_so test (slice_get list count) ≡ false → NoneGot test list (count + 1)
got_more test list count none last k below = at (nat_lt k count) refl
  where
    at : (less : Bool) → nat_lt k count ≡ less → is_so test (slice_get list k) ≡ false
    at true less = none k (grind (arith, less))
    at false less =
        let same : k ≡ count = grind (arith, less, below) in
        ap (λ n. is_so test (slice_get list n)) same ∙ last
