use Rattle.iox_lanes_threads_ports.proofs.SubscriberStriding.{strode_once}
use Rattle.iox_lanes_threads_ports.proofs.subscriber_strides.receive_on.Goals as goal

pub returns-in_default-clause-strode : goal.returns-in_default-clause-strode
returns-in_default-clause-strode g c
    = strode_once c.args.seat.now.me c.step.new.seat.me c.args.lane.now c.step.new.lane c.requires.seat.0 c.requires.stands
    c.step.ensures.steps
