use Rattle.iox_domain.proofs.Held.{held_stays}
use Rattle.iox_domain.proofs.port_laws.messages.held_stays.Goals as goal

pub returns : goal.returns
returns g c = held_stays _ _ _
