use Rattle.iox_lanes_threads_ports.proofs.PublisherSteps as lemmas
use Rattle.iox_lanes_threads_ports.proofs.laws.publishers_go_on.Goals as goal

pub returns : goal.returns
returns c = lemmas.publishers_go_on
