use Rattle.iox_lanes_threads_rule.proofs.Again as lemmas
use Rattle.iox_lanes_threads_rule.proofs.laws.loads_give_the_known.Goals as goal

pub returns : goal.returns
returns c = lemmas.loads_give_the_known
