use Rattle.iox_hub_machine.proofs.NewHub.{new_hub_stands as it_stands}
use Rattle.iox_hub_machine.proofs.new_hub_stands.Goals as goal

pub returns : goal.returns
returns g c = λ handed. it_stands _ _ _ _ _ _
