use Rattle.std.proofs.Common.{◌≡◌, ◌-◌, ◌≤◌, ℕ, get_or, None}
use Rattle.iox_domain_slots.proofs.links.lowered.Given as goal

abbrev pub invariant-loop-count : goal.invariant-loop-count
invariant-loop-count l = (index : ℕ) → l.top - l.count ≤ index → get_or l.items index None ≡ None
