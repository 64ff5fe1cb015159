use Rattle.iox_hub_machine.proofs.Begun.{hub_begins}
use Rattle.iox_hub_machine.proofs.runs.new_hub_begins.Goals as goal

pub returns : goal.returns
returns g c = λ handed. hub_begins _ _ _ _ _
