-- Counts that are added up to a limit.
use Rattle.std.proofs.Common.{arith, ◌≡◌, ◌+◌, ◌==◌, ◌∙◌, ℕ, min, List, [], ◌∷◌, Option, None, Some, Bool, true, false, refl, ap}
use Rattle.std.specs.Map.{values_of}
use Rattle.std.specs.Prelude.{sum_by, if◌then◌else◌}
use Rattle.std.proofs.lemmas.List.Sums.{sum_by-cons}
use Rattle.iox_domain_ports.specs.Living.{counted}

chosen : (same : Bool) (count limit : ℕ) → (if same then (min count limit) else 0) ≡ min (if same then count else 0) limit
chosen true count limit = refl
chosen false count limit = omega arith

-- what counts of an owner is cut where the whole is
pub counted_cut : (owner : Option ℕ) (number count limit : ℕ)
    → counted owner number (min count limit) ≡ min (counted owner number count) limit
counted_cut None number count limit = refl
counted_cut (Some owner) number count limit = chosen (owner == number) count limit

-- the first of some ports counts, and so do the others
pub first_counts : {X : Type 0} (f : X → ℕ) (ports rest : List (ℕ × X)) (first : ℕ × X) → ports ≡ first ∷ rest
    → sum_by f (values_of ports) ≡ f first.1 + sum_by f (values_of rest)
first_counts f ports rest first is = ap (λ ports. sum_by f (values_of ports)) is ∙ sum_by-cons f first.1 (values_of rest)

-- no ports count nothing
pub none_count : {X : Type 0} (f : X → ℕ) (ports : List (ℕ × X)) → ports ≡ [] → sum_by f (values_of ports) ≡ 0
none_count f ports is = ap (λ ports. sum_by f (values_of ports)) is
