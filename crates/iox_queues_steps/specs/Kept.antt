-- The invariant of a ring's cells.
use Rattle.std.specs.Prelude.{ℕ, ◌≡◌, ◌+◌, ◌%◌, ◌<◌, List, length, slice_index}

-- The cells from position `read` on, modulo `n`, hold the list `q`, one number after another.
pub record Held (n : ℕ) (cells : List ℕ) (read : ℕ) (q : List ℕ) : Type 0 where
  pub each : (k : ℕ) → k < length q → slice_index cells ((read + k) % n) ≡ slice_index q k
