use Rattle.iox_describe_base.proofs.CompatibleLemmas.{compatible-true, compatible-from}
use Rattle.iox_describe_base.proofs.laws.compatible_means.Goals as goal

pub returns : goal.returns
returns c = λ a b. (compatible-true a b, compatible-from a b)
