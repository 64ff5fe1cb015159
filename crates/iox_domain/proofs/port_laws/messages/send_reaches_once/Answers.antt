use Rattle.iox_domain.proofs.Tried.{send_reaches_once}
use Rattle.iox_domain.proofs.port_laws.messages.send_reaches_once.Goals as goal

pub returns : goal.returns
returns g c = send_reaches_once _
