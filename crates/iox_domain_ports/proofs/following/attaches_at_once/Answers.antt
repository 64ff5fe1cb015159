use Rattle.iox_domain_ports.proofs.Lacking.{attaches_at_once}
use Rattle.iox_domain_ports.proofs.following.attaches_at_once.Goals as goal

pub returns : goal.returns
returns g c = attaches_at_once
