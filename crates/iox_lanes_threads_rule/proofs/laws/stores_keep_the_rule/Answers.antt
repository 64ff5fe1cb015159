use Rattle.iox_lanes_threads_rule.proofs.Keeping as lemmas
use Rattle.iox_lanes_threads_rule.proofs.laws.stores_keep_the_rule.Goals as goal

pub returns : goal.returns
returns c = lemmas.stores
