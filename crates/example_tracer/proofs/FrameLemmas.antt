-- One more row of a conversation.
use Rattle.std.proofs.Common.{◌≡◌, ℕ, ◌+◌, ◌<◌, List, [], ◌∷◌, ◌++◌, map, length, get_or, refl, zero-add}
use Rattle.std.specs.Prelude.{slice_get}
use Rattle.std.specs.List.{range_with_len}
use Rattle.std.specs.Option.{option_map_or}
use Rattle.std.proofs.lemmas.List.FromFn.{map-range_with_len_more}
use Rattle.std.proofs.lemmas.Option.{slice_get-get_or}
use Rattle.example_tracer.specs.declared.exchange.Exchange.{Exchange}

-- what was drawn of the rows so far, and of one more
pub one_row : (part : Exchange → List ℕ) (conversation : List Exchange) (n : ℕ) (d : Exchange) (old new : List (ℕ × List ℕ))
    → n < length conversation
    → old ≡ map (λ row. (row, option_map_or part (slice_get conversation row) [])) (range_with_len 0 n)
    → new ≡ old ++ (n, part (get_or conversation n d)) ∷ []
    → new ≡ map (λ row. (row, option_map_or part (slice_get conversation row) [])) (range_with_len 0 (n + 1))
one_row part conversation n d old new within so more =
    rw (
      map-range_with_len_more {X = ℕ × List ℕ} (λ row. (row, option_map_or part (slice_get conversation row) [])) 0 n n (zero-add n),
      slice_get-get_or conversation n d within,
      more,
      so,
    ) refl
