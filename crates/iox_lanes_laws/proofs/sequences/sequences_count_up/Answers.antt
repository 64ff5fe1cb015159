use Rattle.iox_lanes_laws.proofs.SequenceLaws as lemmas
use Rattle.iox_lanes_laws.proofs.sequences.sequences_count_up.Goals as goal

pub returns : goal.returns
returns c = lemmas.sequences_count_up
