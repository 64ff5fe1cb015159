use Rattle.iox_lanes_threads_rule.proofs.Counted as lemmas
use Rattle.iox_lanes_threads_rule.proofs.laws.references_are_counted.Goals as goal

pub returns : goal.returns
returns c = lemmas.references_are_counted
