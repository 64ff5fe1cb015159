use Rattle.iox_hub_base.proofs.Lawful.{changed_is_put_back}
use Rattle.iox_hub_base.proofs.laws.changed_is_put_back.Goals as goal

pub returns : goal.returns
returns g c = changed_is_put_back _ _ _ _
