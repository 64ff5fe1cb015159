use Rattle.iox_domain.proofs.Received.{coming_steps}
use Rattle.iox_domain.proofs.port_laws.living.creating_steps.Goals as goal

pub returns : goal.returns
returns g c = coming_steps _ _
