use Rattle.iox_domain_slots.proofs.Linking.{Losing}
use Rattle.iox_domain_slots.proofs.link.Link.lose_waiting.Given as goal

abbrev pub invariant-loop : goal.invariant-loop
invariant-loop l = Losing l.fn.self l.fn.slots l.self l.slots l.counter l.end
