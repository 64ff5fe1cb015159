use Rattle.iox_lanes_laws.proofs.Records as laws
use Rattle.iox_lanes_laws.proofs.messages.reads_give_messages.Goals as goal

pub returns : goal.returns
returns c = laws.reads_give_messages
