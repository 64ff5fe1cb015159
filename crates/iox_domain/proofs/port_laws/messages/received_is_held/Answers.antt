use Rattle.iox_domain.proofs.TakenHeld.{received_is_held}
use Rattle.iox_domain.proofs.port_laws.messages.received_is_held.Goals as goal

pub returns : goal.returns
returns g c = received_is_held _
