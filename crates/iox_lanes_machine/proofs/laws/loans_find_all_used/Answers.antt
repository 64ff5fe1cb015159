use Rattle.iox_lanes_machine.proofs.FullLoans as laws
use Rattle.iox_lanes_machine.proofs.laws.loans_find_all_used.Goals as goal

pub returns : goal.returns
returns c = laws.loans_find_all_used
