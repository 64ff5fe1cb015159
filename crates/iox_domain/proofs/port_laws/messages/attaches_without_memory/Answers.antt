use Rattle.iox_domain.proofs.Attaching.{attaches_without_memory}
use Rattle.iox_domain.proofs.port_laws.messages.attaches_without_memory.Goals as goal

pub returns : goal.returns
returns g c = attaches_without_memory _
