-- Lists by their places, and by the names of their members.
use Rattle.std.proofs.Common.{◌≡◌, ◌≢◌, ◌<◌, ◌⊎◌, ◌∷◌, [], ◌++◌, ◌||◌, ◌==◌, ℕ, zero, suc, Bool, true, false, not, List, length, map}
use Rattle.std.proofs.Common.{get_or, remove, slice_get, Option, None, Some, refl, ap, ◌∙◌, inl, inr, arith}
use Rattle.std.proofs.lemmas.Bool.{eq-eqb, eqb-true, ne_eqb, or_cases, or_from, or_right}
use Rattle.std.specs.List.{list_any}
use Rattle.std.specs.Prelude.{filter, option_map, if◌then◌else◌}
use Rattle.iox_machine.specs.PortList.{those}
use Rattle.iox_machine.specs.Table.{contains}

-- places of other values
pub mapped_at : {X Y : Type 0} (f : X → Y) (xs : List (Option X)) (i : ℕ)
    → get_or (map (option_map f) xs) i None ≡ option_map f (get_or xs i None)
mapped_at f [] i = refl
mapped_at f (x ∷ xs) zero = refl
mapped_at f (x ∷ xs) (suc i) = mapped_at f xs i

-- who is at a place is one of those at places
pub those_has : (places : List (Option ℕ)) (place port : ℕ) → get_or places place None ≡ Some port → contains (those places) port ≡ true
those_has [] place port is = cc
those_has (None ∷ places) zero port is = cc
those_has (Some one ∷ places) zero port is =
    let same : one ≡ port = cc in ap (λ b. b || contains (those places) port) (eq-eqb one port same)
those_has (None ∷ places) (suc place) port is = those_has places place port is
those_has (Some one ∷ places) (suc place) port is = or_right (one == port) (contains (those places) port) (those_has places place port is)

pub those_at : (places : List (Option ℕ)) (port : ℕ) → contains (those places) port ≡ true → (place : ℕ)
    × (get_or places place None ≡ Some port)
those_at [] port is = absurd (cc)
those_at (None ∷ places) port is = let it = those_at places port is in (suc it.0, it.1)
those_at (Some one ∷ places) port is = elim (or_cases (one == port) (contains (those places) port) is) [
  | inl here ↦ (zero, ap (λ n. Some n) (eqb-true one port here))
  | inr more ↦ let it = those_at places port more in (suc it.0, it.1)
]

-- The first key of a list that passes a test is preceded by this many other keys.
abbrev pub Meets : (ℕ → Bool) → List ℕ → ℕ → Type 0
Meets test keys met =
    ((place : ℕ) → place < met → test (get_or keys place 0) ≡ false)
    × ((met ≡ length keys) ⊎ ((met < length keys) × (test (get_or keys met 0) ≡ true)))

behind : (test : ℕ → Bool) (key met : ℕ) (keys : List ℕ) → Meets test (key ∷ keys) (suc met) → Meets test keys met
behind test key met keys (none, end) = (
  λ place below. none (suc place) (omega (arith, below)),
  elim end [
    | inl all ↦ inl (omega (arith, all))
    | inr here ↦ inr (omega (arith, here.0), here.1)
  ],
)

-- the first of them that passes, by its name
pub first_named : (f : ℕ → ℕ) (test named : ℕ → Bool) (keys : List ℕ) (met : ℕ)
    → ((place : ℕ) → place < length keys → named (f (get_or keys place 0)) ≡ test (get_or keys place 0))
    → Meets test keys met → slice_get (filter named (map f keys)) 0 ≡ option_map f (slice_get keys met)
first_named f test named [] met same meets = refl
first_named f test named (key ∷ keys) zero same (none, inl all) = absurd (omega (arith, all))
first_named f test named (key ∷ keys) zero same (none, inr here) =
    ap (λ b. slice_get (if b then f key ∷ filter named (map f keys) else filter named (map f keys)) 0) (same 0 (omega arith) ∙ here.1)
first_named f test named (key ∷ keys) (suc met) same meets =
    ap (λ b. slice_get (if b then f key ∷ filter named (map f keys) else filter named (map f keys)) 0)
    (same 0 (omega arith) ∙ meets.0 0 (omega arith))
    ∙ first_named f test named keys met (λ place within. same (suc place) (omega (arith, within))) (behind test key met keys meets)

-- the first of two lists
pub first_of_first : {X : Type 0} (xs ys : List X) (x : X) → slice_get xs 0 ≡ Some x → slice_get (xs ++ ys) 0 ≡ Some x
first_of_first [] ys x is = cc
first_of_first (one ∷ xs) ys x is = is

pub first_of_second : {X : Type 0} (xs ys : List X) → slice_get xs 0 ≡ None → slice_get (xs ++ ys) 0 ≡ slice_get ys 0
first_of_second [] ys is = refl
first_of_second (one ∷ xs) ys is = cc

-- one of a list is taken out, by its name or at its place
all_stay : (f : ℕ → ℕ) (keys : List ℕ) (gone : ℕ) → ((place : ℕ) → place < length keys → f (get_or keys place 0) ≢ gone)
    → filter (λ other. not (other == gone)) (map f keys) ≡ map f keys
all_stay f [] gone apart = refl
all_stay f (key ∷ keys) gone apart =
    ap (λ b. if not b then f key ∷ filter (λ other. not (other == gone)) (map f keys) else filter (λ other. not (other == gone))
    (map f keys))
    (ne_eqb (f key) gone (apart 0 (omega arith)))
    ∙ ap (λ rest. f key ∷ rest) (all_stay f keys gone (λ place within. apart (suc place) (omega (arith, within))))

pub without_named : (f : ℕ → ℕ) (keys : List ℕ) (place out : ℕ) → slice_get keys place ≡ Some out
    → ((other : ℕ) → other < length keys → other ≢ place → f (get_or keys other 0) ≢ f out)
    → filter (λ other. not (other == f out)) (map f keys) ≡ map f (remove keys place)
without_named f [] place out is apart = cc
without_named f (key ∷ keys) zero out is apart =
    let same : key ≡ out = cc in
    ap (λ b. if not b then f key ∷ filter (λ other. not (other == f out)) (map f keys) else filter (λ other. not (other == f out))
    (map f keys))
    (eq-eqb (f key) (f out) (ap f same))
    ∙ all_stay f keys (f out) (λ other within. apart (suc other) (omega (arith, within)) (λ wrong. absurd (omega (arith, wrong))))
without_named f (key ∷ keys) (suc place) out is apart =
    ap (λ b. if not b then f key ∷ filter (λ other. not (other == f out)) (map f keys) else filter (λ other. not (other == f out))
    (map f keys))
    (ne_eqb (f key) (f out) (apart 0 (omega arith) (λ wrong. absurd (omega (arith, wrong)))))
    ∙ ap (λ rest. f key ∷ rest) (without_named f keys place out is
    (λ other within off. apart (suc other) (omega (arith, within)) (λ same. off (omega (arith, same)))))

-- no element of a list passes a test
pub any_not : {X : Type 0} (test : X → Bool) (xs : List X) (d : X) → ((i : ℕ) → i < length xs → test (get_or xs i d) ≡ false)
    → list_any test xs ≡ false
any_not test [] d none = refl
any_not test (x ∷ xs) d none =
    or_from (test x) (list_any test xs) (none 0 (omega arith)) (any_not test xs d (λ i within. none (suc i) (omega (arith, within))))
