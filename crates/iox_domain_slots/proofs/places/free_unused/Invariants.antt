use Rattle.iox_domain_slots.proofs.Freeing.{Freeing}
use Rattle.iox_domain_slots.proofs.places.free_unused.Given as goal

abbrev pub invariant-loop-count : goal.invariant-loop-count
invariant-loop-count l = Freeing l.fn.places l.references l.first l.places l.count
