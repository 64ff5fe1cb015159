use Rattle.iox_lanes_laws.proofs.Takes as laws
use Rattle.iox_lanes_laws.proofs.courses.receives_take_in_order.Goals as goal

pub returns : goal.returns
returns c = laws.receives_take_in_order
