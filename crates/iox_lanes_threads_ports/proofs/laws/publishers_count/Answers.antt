use Rattle.iox_lanes_threads_ports.proofs.Counts as lemmas
use Rattle.iox_lanes_threads_ports.proofs.laws.publishers_count.Goals as goal

pub returns : goal.returns
returns c = lemmas.publishers_count
