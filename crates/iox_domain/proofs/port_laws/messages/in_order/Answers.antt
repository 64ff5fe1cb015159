use Rattle.iox_domain.proofs.InOrder.{in_order}
use Rattle.iox_domain.proofs.port_laws.messages.in_order.Goals as goal

pub returns : goal.returns
returns g c = in_order _ _ _
