use Rattle.iox_domain_ports.proofs.Tallying.{sound_none}
use Rattle.iox_domain_ports.proofs.tallies.Tallies.new.Goals as goal

pub invariant_of-result : goal.invariant_of-result
invariant_of-result c = rw c.new.ensures.items sound_none
