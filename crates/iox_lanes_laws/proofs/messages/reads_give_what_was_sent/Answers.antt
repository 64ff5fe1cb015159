use Rattle.iox_lanes_laws.proofs.Whole as laws
use Rattle.iox_lanes_laws.proofs.messages.reads_give_what_was_sent.Goals as goal

pub returns : goal.returns
returns c = laws.reads_give_what_was_sent
