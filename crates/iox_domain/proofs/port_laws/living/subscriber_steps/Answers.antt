use Rattle.iox_domain.proofs.Received.{subscribing_steps}
use Rattle.iox_domain.proofs.port_laws.living.subscriber_steps.Goals as goal

pub returns : goal.returns
returns g c = subscribing_steps _
