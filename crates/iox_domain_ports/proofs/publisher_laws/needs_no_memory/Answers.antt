use Rattle.iox_domain_ports.proofs.Enough.{needs_no_memory}
use Rattle.iox_domain_ports.proofs.publisher_laws.needs_no_memory.Goals as goal

pub returns : goal.returns
returns g c = needs_no_memory _
