use Rattle.iox_line.proofs.LineLemmas.{one_command}
use Rattle.iox_line.proofs.laws.one_command.Goals as goal

pub returns : goal.returns
returns c = one_command
