use Rattle.iox_domain_ports.proofs.Serving.{receives_if_given}
use Rattle.iox_domain_ports.proofs.subscriber_laws.receives_if_given.Goals as goal

pub returns : goal.returns
returns g c = receives_if_given
