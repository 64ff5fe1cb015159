use Rattle.std.proofs.Common.{◌≡◌, ◌-◌, ◌≤◌, ℕ, get_or, None}
use Rattle.iox_domain_ports.proofs.ties.end_of.Given as goal

abbrev pub invariant-loop-count : goal.invariant-loop-count
invariant-loop-count l = (place : ℕ) → l.end - l.count ≤ place → get_or l.items place None ≡ None
