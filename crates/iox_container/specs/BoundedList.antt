-- A list with a capacity, and the push that overflows.
use Rattle.std.specs.Prelude.{ℕ, ◌++◌, ◌==◌, nat_lt, List, [], ◌∷◌, length, drop, Option, Some, None, slice_get, if◌then◌else◌}

-- The items in their order, and the maximum number of items.
pub record BoundedList (T : Type 0) : Type 0 where
  pub items : List T
  pub capacity : ℕ

-- The item that a push overflows: none while the new item fits, else the oldest item, or the new item itself at capacity 0.
abbrev pub overflow_of : {T : Type 0} → ℕ → List T → T → Option T
overflow_of capacity items value =
    if nat_lt (length items) capacity then None
    else if capacity == 0 then Some value
    else slice_get items 0

-- The items after a push that drops the oldest item if the list is full, or the new item at capacity 0.
abbrev pub pushed_with_overflow : {T : Type 0} → ℕ → List T → T → List T
pushed_with_overflow capacity items value =
    if nat_lt (length items) capacity then items ++ value ∷ []
    else if capacity == 0 then items
    else drop 1 items ++ value ∷ []
