-- The free keys of a slot map.
use Rattle.std.specs.Prelude.{ℕ, List}

-- The free keys in the order in which they will be given out, and the capacity, which bounds the keys.
pub record BoundedKeys : Type 0 where
  pub keys : List ℕ
  pub capacity : ℕ
