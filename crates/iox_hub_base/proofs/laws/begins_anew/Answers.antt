use Rattle.iox_hub_base.proofs.Lawful.{begins_anew}
use Rattle.iox_hub_base.proofs.laws.begins_anew.Goals as goal

pub returns : goal.returns
returns g c = begins_anew _ _ _ _
