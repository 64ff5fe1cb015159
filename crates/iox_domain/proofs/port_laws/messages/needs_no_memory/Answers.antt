use Rattle.iox_domain.proofs.Roomy.{needs_no_memory}
use Rattle.iox_domain.proofs.port_laws.messages.needs_no_memory.Goals as goal

pub returns : goal.returns
returns g c = needs_no_memory _ _
