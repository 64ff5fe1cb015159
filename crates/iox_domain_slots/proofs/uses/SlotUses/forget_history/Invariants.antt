use Rattle.std.proofs.Common.{◌≡◌, drop}
use Rattle.iox_domain_slots.proofs.uses.SlotUses.forget_history.Given as goal

abbrev pub invariant-loop : goal.invariant-loop
invariant-loop l = l.self ≡ record l.fn.self { history = drop l.counter l.fn.self.history }
