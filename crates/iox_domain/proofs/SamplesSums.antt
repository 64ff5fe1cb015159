-- Sums over lists, and over the values of tables by number.
use Rattle.std.proofs.Common.{arith, ◌≡◌, ◌+◌, ◌≤◌, ◌<◌, ◌∷◌, [], ℕ, zero, suc, Bool, true, false, cond, List, get_or, length, Some}
use Rattle.std.proofs.Common.{if◌then◌else◌, ap}
use Rattle.std.proofs.lemmas.List.Sums.{sum_by-cons, sum_by-le-sum_by}
use Rattle.std.proofs.lemmas.Map.Entries.{sum_by-remove_entry}
use Rattle.std.specs.BTreeMap.{insert_entry}
use Rattle.std.specs.Map.{lookup, set_value, remove_entry, values_of}
use Rattle.std.specs.Ordering.{nat_cmp, match_ordering}
use Rattle.std.specs.Prelude.{sum_by}
use Rattle.std.specs.declared.cmp.Ordering.{Ordering}
use Rattle.std.specs.declared.cmp.Ordering.TheVariants.{Less, Equal, Greater}

-- where nothing counts more and one counts less the sum is less
pub one_fewer : {X : Type 0} (f g : X → ℕ) (xs : List X) (at : ℕ) (x d : X) → ((y : X) → f y ≤ g y) → at < length xs
    → get_or xs at d ≡ x → f x + 1 ≤ g x → sum_by f xs + 1 ≤ sum_by g xs
one_fewer f g [] at x d all within is less = absurd (omega (arith, within))
one_fewer f g (y ∷ ys) zero x d all within is less
    = omega (arith, sum_by-cons f y ys, sum_by-cons g y ys, sum_by-le-sum_by f g ys all, ap f is, ap g is, less)
one_fewer f g (y ∷ ys) (suc at) x d all within is less =
    let rest = one_fewer f g ys at x d all (omega (arith, within)) is less in
    omega (arith, sum_by-cons f y ys, sum_by-cons g y ys, all y, rest)

-- where each counts at most what two others count together
pub sum_both : {X : Type 0} (f g h : X → ℕ) (xs : List X) → ((y : X) → f y ≤ g y + h y) → sum_by f xs ≤ sum_by g xs + sum_by h xs
sum_both f g h [] all = omega arith
sum_both f g h (y ∷ ys) all = omega (arith, sum_by-cons f y ys, sum_by-cons g y ys, sum_by-cons h y ys, all y, sum_both f g h ys all)

-- another value stands under a number, and no other counts more
moved_by : {X : Type 0} (f g : X → ℕ) (test : ℕ → Bool) (passes : Bool) (e : ℕ × X) (es : List (ℕ × X)) (v w : X) → ((y : X) → f y ≤ g y)
    → (lookup test es ≡ Some v → sum_by f (values_of (set_value test es w)) + g v ≤ sum_by g (values_of es) + f w)
    → cond passes (Some e.1) (lookup test es) ≡ Some v
    → sum_by f (values_of (cond passes ((e.0, w) ∷ es) (e ∷ set_value test es w))) + g v ≤ sum_by g (values_of (e ∷ es)) + f w
moved_by f g test true e es v w all rest there =
    let same : e.1 ≡ v = cc in
    omega (arith, sum_by-cons f w (values_of es), sum_by-cons g e.1 (values_of es), sum_by-le-sum_by f g (values_of es) all, ap g same)
moved_by f g test false e es v w all rest there =
    omega (arith, sum_by-cons f e.1 (values_of (set_value test es w)), sum_by-cons g e.1 (values_of es), all e.1, rest there)

pub moved : {X : Type 0} (f g : X → ℕ) (test : ℕ → Bool) (es : List (ℕ × X)) (v w : X) → ((y : X) → f y ≤ g y) → lookup test es ≡ Some v
    → sum_by f (values_of (set_value test es w)) + g v ≤ sum_by g (values_of es) + f w
moved f g test [] v w all there = cc
moved f g test (e ∷ es) v w all there = moved_by f g test (test e.0) e es v w all (moved f g test es v w all) there

-- a value comes under a number
came_by : {X : Type 0} (f : X → ℕ) (came : ℕ) (order : Ordering) (e : ℕ × X) (es : List (ℕ × X)) (x : X)
    → sum_by f (values_of (insert_entry nat_cmp es came x)) ≤ sum_by f (values_of es) + f x
    → sum_by f (values_of (match_ordering order ((came, x) ∷ e ∷ es) ((e.0, x) ∷ es) (e ∷ insert_entry nat_cmp es came x)))
    ≤ sum_by f (values_of (e ∷ es)) + f x
came_by f came Less e es x rest = omega (arith, sum_by-cons f x (values_of (e ∷ es)))
came_by f came Equal e es x rest = omega (arith, sum_by-cons f x (values_of es), sum_by-cons f e.1 (values_of es))
came_by f came Greater e es x rest = omega
    (arith, sum_by-cons f e.1 (values_of (insert_entry nat_cmp es came x)), sum_by-cons f e.1 (values_of es), rest)

pub came : {X : Type 0} (f : X → ℕ) (number : ℕ) (es : List (ℕ × X)) (x : X)
    → sum_by f (values_of (insert_entry nat_cmp es number x)) ≤ sum_by f (values_of es) + f x
came f number [] x = omega (arith, sum_by-cons f x [])
came f number (e ∷ es) x = came_by f number (nat_cmp number e.0) e es x (came f number es x)

-- a value goes
pub gone : {X : Type 0} (f : X → ℕ) (over : Bool) (test : ℕ → Bool) (es : List (ℕ × X))
    → sum_by f (values_of (if over then remove_entry test es else es)) ≤ sum_by f (values_of es)
gone f true test es = omega (arith, sum_by-remove_entry f test es)
gone f false test es = omega arith
