use Rattle.iox_hub_base.proofs.Lawful.{opened_is_found}
use Rattle.iox_hub_base.proofs.laws.opened_is_found.Goals as goal

pub returns : goal.returns
returns g c = opened_is_found _ _ _ _
