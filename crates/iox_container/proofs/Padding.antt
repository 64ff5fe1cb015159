-- Lists of places that end with empty places: what a change of an earlier cell results in, and what a search finds.
use Rattle.std.proofs.Common.{ℕ, zero, suc, ◌≡◌, inl, inr, ◌+◌, ◌-◌, ◌<◌, ◌≤◌, ◌∷◌, ◌++◌, [], List, length, replicate, Option, None, Some}
use Rattle.std.proofs.Common.{IsSome, arith, refl, sym, ap, ◌∙◌}
use Rattle.std.proofs.Math.ListN.{set}
use Rattle.std.proofs.lemmas.Bool.{cases_lt}
use Rattle.std.proofs.lemmas.List.{append_assoc, length-append, length-replicate, length-set, set-append_left, replicate-append-replicate}
use Rattle.std.proofs.lemmas.List.{get_or_past}
use Rattle.iox_container.specs.Places.{padded}
use Rattle.iox_container.specs.PairTable.{pairs}
use Rattle.iox_container.specs.SlotTable.{held_from, value_at}
use Rattle.iox_container.proofs.Tables.{held_from_some}

module _ {T : Type 0} where
  -- there are as many places as were asked for
  pub length-padded : (count : ℕ) (cells : List (Option T)) → length cells ≤ count → length (padded count cells) ≡ count
  length-padded count cells fits =
      omega (
        arith,
        length-append cells (replicate (count - length cells) None),
        length-replicate {A = Option T} (count - length cells)
            None,
      )

  -- further empty cells change nothing
  pub padded-more : (count more : ℕ) (cells : List (Option T)) → length cells + more ≤ count
      → padded count (cells ++ replicate more None) ≡ padded count cells
  padded-more count more cells fits =
      let left = count - length (cells ++ replicate more None) in
      let whole : more + left ≡ count - length cells
      = omega (arith, length-append cells (replicate more None), length-replicate {A = Option T} more None) in
      append_assoc cells (replicate more None) (replicate left None)
      ∙ ap (λ (rest : List (Option T)). cells ++ rest) (replicate-append-replicate {A = Option T} more left None)
      ∙ ap (λ (n : ℕ). cells ++ replicate n None) whole

  none-emptied : (n index : ℕ) → set {A = Option T} (replicate n None) index None ≡ replicate n None
  none-emptied zero index = refl
  none-emptied (suc n) zero = refl
  none-emptied (suc n) (suc index) = ap (λ (cells : List (Option T)). None ∷ cells) (none-emptied n index)

  emptied-append : (cells : List (Option T)) (n index : ℕ)
      → set (cells ++ replicate n None) index None ≡ set cells index None ++ replicate n None
  emptied-append [] n index = none-emptied n index
  emptied-append (cell ∷ cells) n zero = refl
  emptied-append (cell ∷ cells) n (suc index) = ap (λ (rest : List (Option T)). cell ∷ rest) (emptied-append cells n index)

  -- a place is emptied
  pub emptied-padded : (count : ℕ) (cells : List (Option T)) (index : ℕ)
      → set (padded count cells) index None ≡ padded count (set cells index None)
  emptied-padded count cells index =
      emptied-append cells (count - length cells) index
      ∙ ap (λ (n : ℕ). set cells index None ++ replicate (count - n) None) (sym (length-set cells index None))

  -- a place that has a cell is filled
  pub filled-padded : (count : ℕ) (cells : List (Option T)) (index : ℕ) (value : T) → index < length cells
      → set (padded count cells) index (Some value) ≡ padded count (set cells index (Some value))
  filled-padded count cells index value less =
      set-append_left cells (replicate (count - length cells) None) index (Some value) less
      ∙ ap (λ (n : ℕ). set cells index (Some value) ++ replicate (count - n) None) (sym (length-set cells index (Some value)))

  value_at-none : (n index : ℕ) → value_at {T = T} (replicate n None) index ≡ None
  value_at-none zero index = refl
  value_at-none (suc n) zero = refl
  value_at-none (suc n) (suc index) = value_at-none n index

  value_at-append : (cells : List (Option T)) (n index : ℕ) → value_at (cells ++ replicate n None) index ≡ value_at cells index
  value_at-append [] n index = value_at-none n index
  value_at-append (cell ∷ cells) n zero = refl
  value_at-append (cell ∷ cells) n (suc index) = value_at-append cells n index

  -- the value at a place is that of its cell
  pub value_at-padded : (count : ℕ) (cells : List (Option T)) (index : ℕ) → value_at (padded count cells) index ≡ value_at cells index
  value_at-padded count cells index = value_at-append cells (count - length cells) index

  -- after the cells there is no value
  pub none-behind : (count : ℕ) (cells values : List (Option T)) (index : ℕ) → padded count cells ≡ values → length cells ≤ index
      → value_at values index ≡ None
  none-behind count cells values index whole past =
      ap (λ (places : List (Option T)). value_at places index) (sym whole) ∙ value_at-padded count cells index ∙ get_or_past cells index
      None past

  -- a place with a value has a cell
  pub held-has_cell : (count : ℕ) (cells : List (Option T)) (index : ℕ) → IsSome (value_at (padded count cells) index)
      → index < length cells
  held-has_cell count cells index held =
      elim (cases_lt index (length cells)) as (λ _. index < length cells) [
        | inl h ↦ h
        | inr past ↦ absurd (held_from_some (padded count cells) index held (none-behind count cells (padded count cells) index refl past))
      ]

  held_from-none : (at n : ℕ) → held_from {T = T} at (replicate n None) ≡ []
  held_from-none at zero = refl
  held_from-none at (suc n) = held_from-none (at + 1) n

  held_from-append : (at : ℕ) (cells : List (Option T)) (n : ℕ) → held_from at (cells ++ replicate n None) ≡ held_from at cells
  held_from-append at [] n = held_from-none at n
  held_from-append at (None ∷ cells) n = held_from-append (at + 1) cells n
  held_from-append at (Some value ∷ cells) n = ap (λ rest. (at, value) ∷ rest) (held_from-append (at + 1) cells n)

  -- the walk over the cells is that over all places
  pub held_from-padded : (at count : ℕ) (cells values : List (Option T)) → padded count cells ≡ values
      → held_from at cells ≡ held_from at values
  held_from-padded at count cells values whole =
      sym (held_from-append at cells (count - length cells)) ∙ ap (λ (places : List (Option T)). held_from at places) whole

module _ {K V : Type 0} where
  pairs-none : (n : ℕ) → pairs {K = K} {V = V} (replicate n None) ≡ []
  pairs-none zero = refl
  pairs-none (suc n) = pairs-none n

  pairs-append : (cells : List (Option (K × V))) (n : ℕ) → pairs (cells ++ replicate n None) ≡ pairs cells
  pairs-append [] n = pairs-none n
  pairs-append (None ∷ cells) n = pairs-append cells n
  pairs-append (Some pair ∷ cells) n = ap (λ rest. pair ∷ rest) (pairs-append cells n)

  pub pairs-padded : (count : ℕ) (cells places : List (Option (K × V))) → padded count cells ≡ places → pairs cells ≡ pairs places
  pairs-padded count cells places whole =
      sym (pairs-append cells (count - length cells)) ∙ ap (λ (ps : List (Option (K × V))). pairs ps) whole
