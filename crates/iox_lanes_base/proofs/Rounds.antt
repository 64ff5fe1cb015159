-- A ring without cells leaves positions as they are.
use Rattle.std.proofs.Common.{ℕ, ◌≡◌, ◌%◌}
use Rattle.std.proofs.Math.Nat.{mod-zero}

pub no_cells : (position : ℕ) → position % 0 ≡ position
no_cells position = mod-zero position
