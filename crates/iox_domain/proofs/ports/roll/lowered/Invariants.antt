use Rattle.std.proofs.Common.{◌≡◌, ◌-◌, ◌≤◌, ℕ, get_or, None}
use Rattle.iox_domain.proofs.ports.roll.lowered.Given as goal

abbrev pub invariant-loop-count : goal.invariant-loop-count
invariant-loop-count g l = (place : ℕ) → l.end - l.count ≤ place → get_or l.listed place None ≡ None
