use Rattle.iox_delivery_factories.proofs.Valued.{has_one_kind}
use Rattle.iox_delivery_factories.proofs.laws.a_service_has_one_kind.Goals as goal

pub returns : goal.returns
returns c = has_one_kind
