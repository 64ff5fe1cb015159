use Rattle.iox_domain.proofs.AtMostOnce.{connections_are_known}
use Rattle.iox_domain.proofs.port_laws.messages.connections_are_known.Goals as goal

pub returns : goal.returns
returns g c = connections_are_known _ _ _
