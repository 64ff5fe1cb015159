use Rattle.iox_lanes_laws.proofs.OrderedTakes as laws
use Rattle.iox_lanes_laws.proofs.courses.receives_stand_in_order.Goals as goal

pub returns : goal.returns
returns c = laws.receives_stand_in_order
