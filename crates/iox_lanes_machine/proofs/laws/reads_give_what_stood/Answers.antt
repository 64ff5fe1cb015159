use Rattle.iox_lanes_machine.proofs.WholeReads as laws
use Rattle.iox_lanes_machine.proofs.laws.reads_give_what_stood.Goals as goal

pub returns : goal.returns
returns c = laws.reads_give_what_stood
