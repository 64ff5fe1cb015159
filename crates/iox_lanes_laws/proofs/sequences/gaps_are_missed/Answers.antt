use Rattle.iox_lanes_laws.proofs.SequenceGaps as lemmas
use Rattle.iox_lanes_laws.proofs.sequences.gaps_are_missed.Goals as goal

pub returns : goal.returns
returns c = lemmas.gaps_are_missed
