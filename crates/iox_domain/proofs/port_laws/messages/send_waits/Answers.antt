use Rattle.iox_domain.proofs.Waiting.{send_waits}
use Rattle.iox_domain.proofs.port_laws.messages.send_waits.Goals as goal

pub returns : goal.returns
returns g c = send_waits _ _ _
