-- Ports leave their lanes one after the other.
use Rattle.std.proofs.Common.{ℕ, ◌≡◌, ◌+◌, ◌≤◌, List, [], ◌∷◌, ◌++◌, map, length, ◌∙◌, ap, arith, length-append, append_assoc}

-- some left their lanes, and there is room for those of the rest
pub record Left {X Y : Type 0} (f : X → Y) (done : List Y) (rest all : List X) (capacity : ℕ) : Type 0 where
  pub are : done ++ map f rest ≡ map f all
  pub room : length done + length rest ≤ capacity

pub leaves : {X Y : Type 0} (f : X → Y) (done done' : List Y) (x : X) (rest all : List X) (capacity : ℕ)
    → Left f done (x ∷ rest) all capacity → done' ≡ done ++ f x ∷ [] → Left f done' rest all capacity
leaves {X} {Y} f done done' x rest all capacity k is =
    let longer : length done' ≡ length done + 1 = ap (λ (ys : List Y). length ys) is ∙ omega (arith, length-append done (f x ∷ [])) in
    record {
      are = ap (λ (ys : List Y). ys ++ map f rest) is ∙ append_assoc done (f x ∷ []) (map f rest) ∙ k.are;
      room = omega (arith, k.room, longer);
    }
