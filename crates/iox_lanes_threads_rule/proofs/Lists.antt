-- Lists that are read by `get_elem?`.
use Rattle.std.proofs.Common.{ℕ, zero, suc, ◌≡◌, ◌+◌, ◌⊎◌, List, [], ◌∷◌, ◌++◌, length, refl, sym, inl, inr, arith}
use mathlib.Core.Option.{some, some-injective, some-ne-none}
use lib.ListN.{get_elem?}

pub none_there : {X : Type 0} (x : X) (i : ℕ) → get_elem? [] i ≡ some x → ⊥
none_there x i e = some-ne-none x (sym e)

-- what stands in two lists one after the other stands in one of them
pub in_either : {X : Type 0} (xs ys : List X) (n : ℕ) (x : X) → get_elem? (xs ++ ys) n ≡ some x → (get_elem? xs n ≡ some x)
    ⊎ ((j : ℕ) × (n ≡ length xs + j) × (get_elem? ys j ≡ some x))
in_either [] ys n x e = inr (n, omega arith, e)
in_either (y ∷ xs) ys zero x e = inl e
in_either (y ∷ xs) ys (suc n) x e = elim (in_either xs ys n x e) [
  | inl here ↦ inl here
  | inr there ↦ inr (there.0, omega (arith, there.1), there.2)
]

-- a list of one has it alone
pub alone : {X : Type 0} (x y : X) (i : ℕ) → get_elem? (x ∷ []) i ≡ some y → (i ≡ 0) × (x ≡ y)
alone x y zero e = (refl, some-injective x y e)
alone x y (suc i) e = absurd (none_there y i e)
