-- One more reply puts its sample, if it gives one.
use Rattle.std.proofs.Common.{◌≡◌, refl, ap, ℕ, List, [], ◌∷◌, map}
use Rattle.std.specs.Prelude.{Option, Some, None, filter}
use Rattle.std.specs.List.{filter_map, cons_option}
use Rattle.example_tracer.specs.Gateway.{sample_of, put_of, put_if, line_for, says_something, CarriesOver}

one_more : (sample : Option (List ℕ)) (lines samples : List (List ℕ)) → filter says_something lines ≡ map put_of samples
    → filter says_something (put_if sample ∷ lines) ≡ map put_of (cons_option sample samples)
one_more None lines samples so_far = so_far
one_more (Some []) lines samples so_far = ap (λ (rest : List (List ℕ)). put_of [] ∷ rest) so_far
one_more (Some (value ∷ values)) lines samples so_far = ap (λ (rest : List (List ℕ)). put_of (value ∷ values) ∷ rest) so_far

pub carried : (replies : List (List ℕ)) → CarriesOver replies
carried [] = refl
carried (reply ∷ rest) = one_more (sample_of reply) (map line_for rest) (filter_map sample_of rest) (carried rest)
