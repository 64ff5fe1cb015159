use Rattle.iox_lanes_machine.proofs.PermittedLoans as laws
use Rattle.iox_lanes_machine.proofs.laws.loans_end_as_begun.Goals as goal

pub returns : goal.returns
returns c = laws.loans_end_as_begun
