use Rattle.iox_lanes_threads_ports.proofs.SubscriberStriding.{subscriber_goes_ahead}
use Rattle.iox_lanes_threads_ports.proofs.ahead.SubscriberLaneAhead.goes_ahead.Goals as goal

pub returns : goal.returns
returns c = subscriber_goes_ahead
