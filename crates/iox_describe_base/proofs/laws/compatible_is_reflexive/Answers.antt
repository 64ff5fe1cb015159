use Rattle.iox_describe_base.proofs.CompatibleLemmas.{compatible-itself}
use Rattle.iox_describe_base.proofs.laws.compatible_is_reflexive.Goals as goal

pub returns : goal.returns
returns c = compatible-itself
