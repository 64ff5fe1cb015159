use Rattle.iox_domain.proofs.Sized.{sizes_agree}
use Rattle.iox_domain.proofs.port_laws.service.sizes_agree.Goals as goal

pub returns : goal.returns
returns g c = sizes_agree _ _ _
