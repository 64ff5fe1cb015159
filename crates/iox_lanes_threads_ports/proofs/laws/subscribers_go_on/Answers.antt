use Rattle.iox_lanes_threads_ports.proofs.SubscriberSteps as lemmas
use Rattle.iox_lanes_threads_ports.proofs.laws.subscribers_go_on.Goals as goal

pub returns : goal.returns
returns c = lemmas.subscribers_go_on
