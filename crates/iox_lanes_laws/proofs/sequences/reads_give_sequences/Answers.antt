use Rattle.iox_lanes_laws.proofs.SequenceLaws as lemmas
use Rattle.iox_lanes_laws.proofs.sequences.reads_give_sequences.Goals as goal

pub returns : goal.returns
returns c = lemmas.reads_give_sequences
