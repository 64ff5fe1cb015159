use Rattle.iox_line.proofs.HasLineLemmas.{has_line}
use Rattle.iox_line.proofs.laws.each_has_a_line.Goals as goal

pub returns : goal.returns
returns c = has_line
