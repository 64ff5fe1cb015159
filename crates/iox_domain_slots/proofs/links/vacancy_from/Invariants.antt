use Rattle.std.proofs.Common.{◌≡◌, ◌<◌, ◌≤◌, ℕ, get_or, None, true}
use Rattle.std.specs.Prelude.{is_some}
use Rattle.iox_domain_slots.proofs.links.vacancy_from.Given as goal

abbrev pub invariant-loop-index : goal.invariant-loop-index
invariant-loop-index l = (lower : ℕ) → l.start ≤ lower → lower < l.index → is_some (get_or l.items lower None) ≡ true
