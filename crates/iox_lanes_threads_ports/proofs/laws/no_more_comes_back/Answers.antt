use Rattle.iox_lanes_threads_ports.proofs.Swept as lemmas
use Rattle.iox_lanes_threads_ports.proofs.laws.no_more_comes_back.Goals as goal

pub returns : goal.returns
returns c = lemmas.few_taken
