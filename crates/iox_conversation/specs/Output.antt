-- A writer, and what its calls have returned so far.
use Rattle.std.specs.Prelude.{Bool}

-- The writer, and whether a write call failed or took none of the bytes that it was given.
pub record OutputState (W : Type 0) : Type 0 where
  pub writer : W
  pub failed : Bool
