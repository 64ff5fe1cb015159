-- Scanning the cells of an owner, and emptying those that a decision selects.
use Rattle.std.specs.Prelude.{ℕ, ◌≡◌, ◌+◌, Bool, List, [], ◌∷◌, Option, slice_set}
use Rattle.std.specs.List.{cons_option}
use Rattle.iox_container.specs.Retained.{KeepsAsAnswered}

module _ {C X : Type 0} (asked : ℕ → C → Option X) where
  -- What `asked` selects from the cells by rising index, where `from` is the index of the first cell.
  abbrev pub asked_from : ℕ → List C → List X
  asked_from from [] = []
  asked_from from (cell ∷ cells) = cons_option (asked from cell) (asked_from (from + 1) cells)

  module _ (index_of : X → ℕ) (empty : C) where
    -- The cells after those of the selected things are emptied.
    abbrev pub without_each : List X → List C → List C
    without_each [] cells = cells
    without_each (x ∷ told) cells = without_each told (slice_set cells (index_of x) empty)

    -- `decide` was called once for each selected thing, in order, and `after` is its state after exactly these calls. The cells for which
    -- it returned true were emptied, and no other cell changed.
    abbrev pub Recovers : {F : Type 0} → (F → X → Bool → F → Type 0) → F → List C → List C → F → Type 0
    Recovers R decide old new after = (told : List X) × KeepsAsAnswered R decide (asked_from 0 old) told after
        × (new ≡ without_each told old)
