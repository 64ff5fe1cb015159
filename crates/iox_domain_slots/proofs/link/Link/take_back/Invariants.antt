use Rattle.iox_domain_slots.proofs.Linking.{TakingBack}
use Rattle.iox_domain_slots.proofs.link.Link.take_back.Given as goal

abbrev pub invariant-loop : goal.invariant-loop
invariant-loop l = TakingBack l.fn.self l.fn.slots l.self l.slots l.counter l.end
