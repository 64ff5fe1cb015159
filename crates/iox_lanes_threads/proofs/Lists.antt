-- Lists that are mapped, read by `slice_get`.
use Rattle.std.proofs.Common.{ℕ, zero, suc, ◌≡◌, List, [], ◌∷◌, map, slice_get, Some, refl, sym, ap}

-- what a mapped list has is the image of what the list has
pub mapped_is : {X Y : Type 0} (f : X → Y) (xs : List X) (i : ℕ) (y : Y) → slice_get (map f xs) i ≡ Some y → (x : X)
    × (slice_get xs i ≡ Some x) × (y ≡ f x)
mapped_is f [] i y e = absurd (cc e)
mapped_is f (x ∷ xs) zero y e = (x, refl, some_is (sym e))
  where
    some_is : Some y ≡ Some (f x) → y ≡ f x
    some_is h = cc h
mapped_is f (x ∷ xs) (suc i) y e = mapped_is f xs i y e

pub mapped_at : {X Y : Type 0} (f : X → Y) (xs : List X) (i : ℕ) (x : X) → slice_get xs i ≡ Some x → slice_get (map f xs) i ≡ Some (f x)
mapped_at f [] i x e = absurd (cc e)
mapped_at {X} {Y} f (z ∷ xs) zero x e = ap (λ (y : Y). Some y) (ap f (some_is e))
  where
    some_is : Some z ≡ Some x → z ≡ x
    some_is h = cc h
mapped_at f (z ∷ xs) (suc i) x e = mapped_at f xs i x e
