-- Places for numbers that follow one another, as entries.
use Rattle.std.proofs.Common.{◌≡◌, ℕ, zero, suc, ◌+◌, ◌<◌, List, [], ◌∷◌, ◌++◌, length, get_or, set, Option, Some, None, refl, sym, ap}
use Rattle.std.proofs.Common.{◌∙◌, inl, inr, arith}
use Rattle.std.specs.Prelude.{nat_eq, IsSome}
use Rattle.std.specs.Map.{lookup, remove_entry, set_value}
use Rattle.std.proofs.lemmas.Bool.{cases_lt}
use Rattle.std.proofs.lemmas.Bool.Decides.{nat_tests}
use Rattle.std.proofs.lemmas.List.{get_or_past}
use Rattle.iox_container.specs.NumberTable.{Rises}
use Rattle.iox_container.specs.ByNumberPlaces.{present}
use Rattle.iox_container.proofs.Rising.{Rises-lower, lookup-below}
use Rattle.iox_container.proofs.Joined.{remove-absent}

module _ {V : Type 0} where
  -- they rise from the first number on, to after the last place
  pub Rises-present : (first next : ℕ) (places : List (Option V)) → next ≡ first + length places → Rises first (present first places) next
  Rises-present first next [] ends = omega arith
  Rises-present first next (None ∷ places) ends
      = Rises-lower first (first + 1) next (present (first + 1) places) (omega arith) (Rises-present (first + 1) next places (omega arith))
  Rises-present first next (Some value ∷ places) ends = (omega arith, Rises-present (first + 1) next places (omega arith))

  -- a number below the first is nowhere in them
  lookup-present_below : (number first : ℕ) (places : List (Option V)) → number < first
      → lookup (nat_eq number) (present first places) ≡ None
  lookup-present_below number first places below
      = lookup-below number first (first + length places) (present first places)
      (Rises-present first (first + length places) places refl) below

  -- a number is found in its place
  pub lookup-present : (number first place : ℕ) (places : List (Option V)) → number ≡ first + place
      → lookup (nat_eq number) (present first places) ≡ get_or places place None
  lookup-present number first place [] here = refl
  lookup-present number first zero (None ∷ places) here = lookup-present_below number (first + 1) places (omega arith)
  lookup-present number first (suc place) (None ∷ places) here = lookup-present number (first + 1) place places (omega arith)
  lookup-present number first zero (Some value ∷ places) here = let same : number ≡ first = omega arith in grind (arith, nat_tests)
  lookup-present number first (suc place) (Some value ∷ places) here =
      let later : lookup (nat_eq number) (present (first + 1) places) ≡ get_or places place None
      = lookup-present number (first + 1) place places (omega arith) in
      let apart : first < number = omega arith in
      grind (arith, nat_tests)

  -- a number that is found has a place
  pub has_place : (number first place : ℕ) (places : List (Option V)) → number ≡ first + place
      → IsSome (lookup (nat_eq number) (present first places)) → place < length places
  has_place number first place places here found = elim (cases_lt place (length places)) [
    | inl within ↦ within
    | inr past ↦ (let none : lookup (nat_eq number) (present first places) ≡ None
        = lookup-present number first place places here ∙ get_or_past places place None past in absurd (grind arith))
  ]

  -- and goes when its place is emptied
  pub remove-present : (number first place : ℕ) (places : List (Option V)) → number ≡ first + place
      → present first (set places place None) ≡ remove_entry (nat_eq number) (present first places)
  remove-present number first place [] here = refl
  remove-present number first zero (None ∷ places) here
      = sym (remove-absent (nat_eq number) (present (first + 1) places) (lookup-present_below number (first + 1) places (omega arith)))
  remove-present number first (suc place) (None ∷ places) here = remove-present number (first + 1) place places (omega arith)
  remove-present number first zero (Some value ∷ places) here = let same : number ≡ first = omega arith in grind (arith, nat_tests)
  remove-present number first (suc place) (Some value ∷ places) here =
      let later : present (first + 1) (set places place None) ≡ remove_entry (nat_eq number) (present (first + 1) places)
      = remove-present number (first + 1) place places (omega arith) in
      let apart : first < number = omega arith in
      grind (arith, nat_tests)

  -- another value in a place that has one is another value under its number
  pub set-present : (number first place : ℕ) (old new : V) (places : List (Option V)) → number ≡ first + place
      → get_or places place None ≡ Some old
      → present first (set places place (Some new)) ≡ set_value (nat_eq number) (present first places) new
  set-present number first place old new [] here held = cc
  set-present number first zero old new (None ∷ places) here held = cc
  set-present number first (suc place) old new (None ∷ places) here held
      = set-present number (first + 1) place old new places (omega arith) held
  set-present number first zero old new (Some value ∷ places) here held = let same : number ≡ first
      = omega arith in grind (arith, nat_tests)
  set-present number first (suc place) old new (Some value ∷ places) here held =
      let later : present (first + 1) (set places place (Some new)) ≡ set_value (nat_eq number) (present (first + 1) places) new
      = set-present number (first + 1) place old new places (omega arith) held in
      let apart : first < number = omega arith in
      grind (arith, nat_tests)

  -- a value in one place more
  pub present-push : (first next : ℕ) (value : V) (places : List (Option V)) → next ≡ first + length places
      → present first (places ++ Some value ∷ []) ≡ present first places ++ (next, value) ∷ []
  present-push first next value [] ends = let same : first ≡ next = omega arith in ap (λ n. (n, value) ∷ []) same
  present-push first next value (None ∷ places) ends = present-push (first + 1) next value places (omega arith)
  present-push first next value (Some other ∷ places) ends
      = ap (λ rest. (first, other) ∷ rest) (present-push (first + 1) next value places (omega arith))
