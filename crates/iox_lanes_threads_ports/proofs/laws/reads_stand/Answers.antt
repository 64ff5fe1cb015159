use Rattle.iox_lanes_threads_ports.proofs.Listing as lemmas
use Rattle.iox_lanes_threads_ports.proofs.laws.reads_stand.Goals as goal

pub returns : goal.returns
returns c = lemmas.reads_stand
