use Rattle.iox_domain.proofs.Agreeing.{parts_agree}
use Rattle.iox_domain.proofs.laws.parts_agree.Goals as goal

pub returns : goal.returns
returns g c = parts_agree _ _ _
