-- Which items stay when a test is called for each.
use Rattle.std.specs.Prelude.{◌≡◌, Bool, List, length}
use Rattle.std.specs.List.{items_where_true}
use Rattle.std.specs.List.Retain.{ReturnsInTurn}

-- The test was called once for each item, in order, `after` is its state after exactly these calls, and `kept` are the items for which it
-- returned true.
abbrev pub KeepsAsAnswered : {F X : Type 0} → (F → X → Bool → F → Type 0) → F → List X → List X → F → Type 0
KeepsAsAnswered step first items kept after =
    (answers : List Bool) × (length answers ≡ length items) × ReturnsInTurn step first answers items after
    × (kept ≡ items_where_true answers items)
