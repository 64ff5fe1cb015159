use Rattle.iox_hub_machine.proofs.Closing.{closing_follows}
use Rattle.iox_hub_machine.proofs.closing_matches.Goals as goal

pub returns : goal.returns
returns g c = λ handed. closing_follows _ _
