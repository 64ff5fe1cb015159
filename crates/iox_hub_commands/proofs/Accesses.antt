-- Lists for storage operations, one after the other.
use Rattle.std.proofs.Common.{ℕ, zero, suc, ◌≡◌, ◌+◌, ◌-◌, ◌<◌, List, [], ◌∷◌, ◌++◌, map, append_assoc, lt_irrefl, arith, sym, subst, ◌∙◌}
use Rattle.iox_hub_commands.specs.Steps.{from}

-- what is made for one storage operation is the first of what is left
pub one_made : {Y : Type 0} (f : ℕ → Y) (access left : ℕ) (made all : List Y) → 0 < left → made ++ map f (from access left) ≡ all
    → (made ++ f access ∷ []) ++ map f (from (access + 1) (left - 1)) ≡ all
one_made f access zero made all some is = absurd (lt_irrefl 0 some)
one_made f access (suc left) made all some is =
    let same : suc left - 1 ≡ left = omega (arith) in
    subst (λ rest. (made ++ f access ∷ []) ++ map f (from (access + 1) rest) ≡ all) (sym same)
    (append_assoc made (f access ∷ []) (map f (from (access + 1) left)) ∙ is)
