-- A reader, and what its calls have returned so far.
use Rattle.std.specs.Prelude.{ℕ, Bool, false, ◌==◌, Option, None, Some, Result, Ok, Err}

-- The reader, how many read calls were made, whether one failed, and whether the last returned no bytes.
pub record InputState (R : Type 0) : Type 0 where
  pub reader : R
  pub calls : ℕ
  pub failed : Bool
  pub ended : Bool

-- Whether a read call succeeded and returned no bytes.
abbrev pub is_end : {E : Type 0} → Result (Option ℕ) E → Bool
is_end (Ok (Some count)) = count == 0
is_end (Ok None) = false
is_end (Err error) = false
