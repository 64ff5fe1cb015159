-- What is locked has nothing that is held, also after cells were emptied.
use Rattle.std.proofs.Common.{ℕ, zero, suc, ◌≡◌, ◌+◌, ◌<◌, ◌≤◌, ◌∷◌, [], List, length, get_or, Bool, true, false, not, cond, Option, None}
use Rattle.std.proofs.Common.{Some, is_some, arith, refl, sym, ◌∙◌}
use Rattle.std.proofs.Math.ListN.{set}
use Rattle.std.proofs.lemmas.Bool.{false≢true}
use Rattle.std.specs.List.{count_by}
use Rattle.std.proofs.lemmas.List.Sums.{sum_by-cons}
use Rattle.std.proofs.lemmas.List.Quantifiers.{position-Some}
use Rattle.iox_container.specs.CountedPlaces.{lowest_empty}
use Rattle.iox_container.specs.Release.{IsUnheldIfLocked}
use Rattle.iox_container.specs.Recovery.{without_each}

-- a cell more, and what it adds to the full ones
pub count-cons : {C : Type 0} (cell : Option C) (cells : List (Option C))
    → count_by is_some (cell ∷ cells) ≡ cond (is_some cell) 1 0 + count_by is_some cells
count-cons cell cells = sum_by-cons (λ c. cond (is_some c) 1 0) cell cells

-- no more cells are full once one was emptied
pub count-emptied : {C : Type 0} (cells : List (Option C)) (index : ℕ) → count_by is_some (set cells index None) ≤ count_by is_some cells
count-emptied [] index = omega arith
count-emptied (cell ∷ cells) zero = omega (arith, count-cons cell cells, count-cons None cells)
count-emptied (cell ∷ cells) (suc index) =
    omega (arith, count-cons cell cells, count-cons cell (set cells index None), count-emptied cells index)

-- one more, where it was empty
count-filled : {C : Type 0} (cells : List (Option C)) (index : ℕ) (content : C) → index < length cells
    → is_some (get_or cells index None) ≡ false
    → count_by is_some (set cells index (Some content)) ≡ count_by is_some cells + 1
count-filled [] index content within empty = absurd (omega arith)
count-filled (None ∷ cells) zero content within empty =
    let before = count-cons None cells in
    let after = count-cons (Some content) cells in
    after ∙ (omega (arith, before))
count-filled (Some one ∷ cells) zero content within empty = absurd (false≢true (sym empty))
count-filled (first ∷ cells) (suc index) content within empty =
    omega (
      arith,
      count-cons first cells,
      count-cons first (set cells index (Some content)),
      count-filled cells index content
          (omega arith) empty,
    )

negated : (b : Bool) → not b ≡ true → b ≡ false
negated true is = sym is
negated false is = refl

pub count-lowest : {C : Type 0} (cells : List (Option C)) (index : ℕ) (content : C) → lowest_empty cells ≡ Some index
    → (index < length cells) × (count_by is_some (set cells index (Some content)) ≡ count_by is_some cells + 1)
count-lowest cells index content lowest =
    let found = position-Some (λ place. not (is_some place)) cells index None lowest in
    (found.0, count-filled cells index content found.0 (negated (is_some (get_or cells index None)) found.1))

module _ {C X : Type 0} (asked : ℕ → Option C → Option X) (index_of : X → ℕ) where
  -- nor once several were
  count-emptied_each : (told : List X) (cells : List (Option C))
      → count_by is_some (without_each asked index_of None told cells) ≤ count_by is_some cells
  count-emptied_each [] cells = omega arith
  count-emptied_each (x ∷ told) cells
      = omega (arith, count-emptied_each told (set cells (index_of x) None), count-emptied cells (index_of x))

  -- so what was locked keeps none
  pub unheld-emptied : (told : List X) (old new : List (Option C)) (locked : Bool) → new ≡ without_each asked index_of None told old
      → IsUnheldIfLocked locked (count_by is_some old) → IsUnheldIfLocked locked (count_by is_some new)
  unheld-emptied told old new locked after unheld is = rw after (omega (arith, unheld is, count-emptied_each told old))
