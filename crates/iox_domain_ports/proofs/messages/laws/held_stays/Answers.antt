use Rattle.iox_domain_ports.proofs.Holding.{held_stays}
use Rattle.iox_domain_ports.proofs.messages.laws.held_stays.Goals as goal

pub returns : goal.returns
returns g c = held_stays
