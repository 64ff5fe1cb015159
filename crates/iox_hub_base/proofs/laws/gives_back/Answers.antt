use Rattle.iox_hub_base.proofs.Lawful.{gives_back}
use Rattle.iox_hub_base.proofs.laws.gives_back.Goals as goal

pub returns : goal.returns
returns g c = gives_back _ _ _ _
