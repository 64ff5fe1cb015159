use Rattle.iox_lanes_threads_ports.proofs.OneValue as lemmas
use Rattle.iox_lanes_threads_ports.proofs.laws.reads_give_one_value.Goals as goal

pub returns : goal.returns
returns c = lemmas.reads_give_one_value
