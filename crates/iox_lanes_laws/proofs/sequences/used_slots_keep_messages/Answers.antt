use Rattle.iox_lanes_laws.proofs.SequenceLaws as lemmas
use Rattle.iox_lanes_laws.proofs.sequences.used_slots_keep_messages.Goals as goal

pub returns : goal.returns
returns c = lemmas.used_slots_keep_messages
