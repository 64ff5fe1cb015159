use Rattle.iox_lanes_laws.proofs.Whole as laws
use Rattle.iox_lanes_laws.proofs.messages.used_slots_send_nothing.Goals as goal

pub returns : goal.returns
returns c = laws.used_slots_send_nothing
