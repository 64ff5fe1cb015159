use Rattle.iox_lanes_threads_rule.proofs.Exchanging as lemmas
use Rattle.iox_lanes_threads_rule.proofs.laws.exchanges_keep_the_rule.Goals as goal

pub returns : goal.returns
returns c = lemmas.exchanges
