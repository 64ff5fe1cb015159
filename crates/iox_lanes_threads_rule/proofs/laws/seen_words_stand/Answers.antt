use Rattle.iox_lanes_threads_rule.proofs.Seen as lemmas
use Rattle.iox_lanes_threads_rule.proofs.laws.seen_words_stand.Goals as goal

pub returns : goal.returns
returns c = lemmas.seen_words_stand
