use Rattle.iox_container.proofs.Telling.{found_and_gone}
use Rattle.iox_container.proofs.by_number.laws.found_and_gone.Goals as goal

pub returns : goal.returns
returns g c = found_and_gone _
