use Rattle.iox_lanes_threads_ports.proofs.Striding.{publisher_goes_ahead}
use Rattle.iox_lanes_threads_ports.proofs.ahead.PublisherLaneAhead.goes_ahead.Goals as goal

pub returns : goal.returns
returns c = publisher_goes_ahead
