use Rattle.iox_lanes_laws.proofs.OrderedTakes as laws
use Rattle.iox_lanes_laws.proofs.courses.takes_stand_in_order.Goals as goal

pub returns-clause-steps : goal.returns-clause-steps
returns-clause-steps c = laws.steps_take_now

pub returns-clause-entries : goal.returns-clause-entries
returns-clause-entries c = laws.takes_stand_in_order
