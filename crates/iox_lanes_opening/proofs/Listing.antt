-- What holds of each port that a list lists, place by place.
use Rattle.std.proofs.Common.{rules, arith, ℕ, zero, suc, ◌≡◌, ◌+◌, ◌-◌, ◌<◌, ◌≤◌, ◌&&◌, ◌++◌, ◌∷◌, [], Bool, true, false, nat_lt, List}
use Rattle.std.proofs.Common.{length, get_or, replicate, Option, None, refl, ap, sym, ◌∙◌}
use Rattle.iox_domain.specs.Container.CountedPlaces.{padded}
use Rattle.iox_domain.specs.Container.declared.container.Member.{Member}
use Rattle.iox_lanes_opening.specs.Listed.{holds_at, of_each_listed}

each_empty : {V : Type 0} (holds : ℕ → V → Bool) (first count : ℕ) → of_each_listed holds first (replicate count None) ≡ true
each_empty holds first zero = refl
each_empty holds first (suc count) = each_empty holds (first + 1) count

each_behind : {V : Type 0} (holds : ℕ → V → Bool) (first count : ℕ) (places : List (Option (Member V)))
    → of_each_listed holds first (places ++ replicate count None) ≡ of_each_listed holds first places
each_behind holds first count [] = each_empty holds first count
each_behind holds first count (place ∷ rest) = ap (λ rest. holds_at holds first place && rest) (each_behind holds (first + 1) count rest)

-- of a list that may end after the last that is listed the same holds
each_padded : {V : Type 0} (holds : ℕ → V → Bool) (count : ℕ) (listed places : List (Option (Member V))) → padded count listed ≡ places
    → of_each_listed holds 0 places ≡ of_each_listed holds 0 listed
each_padded holds count listed places whole = ap (of_each_listed holds 0) (sym whole) ∙ each_behind holds 0 (count - length listed) listed

-- what a place has, whatever is said of one that isn't there
get_any : {A : Type 0} (a b : A) (list : List A) (k : ℕ) → k < length list → get_or list k a ≡ get_or list k b
get_any a b [] k below = absurd (omega (arith, below))
get_any a b (x ∷ rest) zero below = refl
get_any a b (x ∷ rest) (suc k) below = get_any a b rest k (omega (arith, below))

-- it holds of the first n places
abbrev pub HoldBelow : {V : Type 0} → (ℕ → V → Bool) → List (Option (Member V)) → ℕ → Type 0
HoldBelow holds places count = (k : ℕ) → k < count → holds_at holds k (get_or places k None) ≡ true

and_false : (b : Bool) → (b && false) ≡ false
and_false true = refl
and_false false = refl

each_false : {V : Type 0} (holds : ℕ → V → Bool) (first k n : ℕ) (places : List (Option (Member V))) → n ≡ first + k
    → holds_at holds n (get_or places k None) ≡ false → of_each_listed holds first places ≡ false
each_false holds first k n [] there not = search (rules, not)
each_false holds first zero n (place ∷ rest) there not =
    let same : first ≡ n = omega (arith, there) in
    rw (ap (λ n. holds_at holds n place) same ∙ not) refl
each_false holds first (suc k) n (place ∷ rest) there not =
    rw (each_false holds (first + 1) k n rest (omega (arith, there)) not) (and_false (holds_at holds first place))

each_true : {V : Type 0} (holds : ℕ → V → Bool) (first count : ℕ) (places : List (Option (Member V))) → length places ≤ count
    → ((k n : ℕ) → n ≡ first + k → k < count → holds_at holds n (get_or places k None) ≡ true) → of_each_listed holds first places ≡ true
each_true holds first count [] few hold = refl
each_true holds first zero (place ∷ rest) few hold = absurd (omega (arith, few))
each_true holds first (suc count) (place ∷ rest) few hold =
    rw (hold zero first (omega arith) (omega arith))
    (each_true holds (first + 1) count rest (omega (arith, few))
    (λ k n there below. hold (suc k) n (omega (arith, there)) (omega (arith, below))))

-- one that doesn't hold is enough, also for a list that ends earlier
pub not_each : {V : Type 0} (holds : ℕ → V → Bool) (count k : ℕ) (listed places : List (Option (Member V))) (at : Option (Member V))
    → padded count listed ≡ places
    → k < length listed → at ≡ get_or listed k at → holds_at holds k at ≡ false → of_each_listed holds 0 places ≡ false
not_each holds count k listed places at whole below is not =
    each_padded holds count listed places whole
    ∙ each_false holds 0 k k listed (omega arith) (ap (holds_at holds k) (get_any None at listed k below ∙ sym is) ∙ not)

pub each_of_all : {V : Type 0} (holds : ℕ → V → Bool) (count k : ℕ) (listed places : List (Option (Member V)))
    → padded count listed ≡ places → length listed ≤ k → HoldBelow holds listed k → of_each_listed holds 0 places ≡ true
each_of_all holds count k listed places whole few hold =
    each_padded holds count listed places whole
    ∙ each_true holds 0 k listed few (λ j n there below.
    (let same : n ≡ j = omega (arith, there) in ap (λ n. holds_at holds n (get_or listed j None)) same ∙ hold j below))

pub hold_more : {V : Type 0} (holds : ℕ → V → Bool) (places : List (Option (Member V))) (count : ℕ) (last : Option (Member V))
    → HoldBelow holds places count
    → count < length places → last ≡ get_or places count last → holds_at holds count last ≡ true → HoldBelow holds places (count + 1)
hold_more holds places count last hold within is holds_last k below = at (nat_lt k count) refl
  where
    at : (less : Bool) → nat_lt k count ≡ less → holds_at holds k (get_or places k None) ≡ true
    at true less = hold k (grind (arith, less))
    at false less =
        let same : k ≡ count = grind (arith, less, below) in
        ap (λ n. holds_at holds n (get_or places n None)) same ∙ ap (holds_at holds count)
        (get_any None last places count within ∙ sym is) ∙ holds_last
