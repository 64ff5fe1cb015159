use Rattle.iox_lanes_threads_rule.proofs.Counted as lemmas
use Rattle.iox_lanes_threads_rule.proofs.laws.positions_are_near.Goals as goal

pub returns : goal.returns
returns c = lemmas.positions_are_near
