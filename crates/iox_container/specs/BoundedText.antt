-- A text with a capacity.
use Rattle.std.specs.Prelude.{ℕ, List}

-- A text, and the maximum number of its bytes.
pub record BoundedText : Type 0 where
  pub text : List ℕ
  pub capacity : ℕ
