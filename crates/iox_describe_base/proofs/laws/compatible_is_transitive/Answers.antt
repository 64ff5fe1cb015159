use Rattle.iox_describe_base.proofs.CompatibleLemmas.{compatible-chain}
use Rattle.iox_describe_base.proofs.laws.compatible_is_transitive.Goals as goal

pub returns : goal.returns
returns c = compatible-chain
