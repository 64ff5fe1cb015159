use Rattle.iox_domain.proofs.GapsTold.{gaps_tell}
use Rattle.iox_domain.proofs.port_laws.messages.gaps_tell.Goals as goal

pub returns : goal.returns
returns g c = gaps_tell _ _ _
