use Rattle.iox_hub_machine.proofs.Foreign.{foreign_matches}
use Rattle.iox_hub_machine.proofs.steps_of_others_match.Goals as goal

pub returns : goal.returns
returns g c = λ handed. foreign_matches _ _
