use Rattle.iox_delivery_factories.proofs.Valued.{elements_have_values}
use Rattle.iox_delivery_factories.proofs.laws.elements_have_values.Goals as goal

pub returns : goal.returns
returns c = elements_have_values
