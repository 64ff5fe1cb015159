use Rattle.iox_hub_commands.proofs.Found.{found_until_closed}
use Rattle.iox_hub_commands.proofs.services.laws.found_until_closed.Goals as goal

pub returns : goal.returns
returns g c = found_until_closed _ _ _ _
