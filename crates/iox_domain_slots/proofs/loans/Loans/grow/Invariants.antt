use Rattle.std.proofs.Common.{◌≡◌, ◌+◌}
use Rattle.iox_domain_slots.proofs.loans.Loans.grow.Given as goal

abbrev pub invariant-loop : goal.invariant-loop
invariant-loop l = l.self ≡ record l.fn.self { made = l.fn.self.made + l.counter }
