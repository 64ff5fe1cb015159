use Rattle.iox_domain.proofs.Serviced.{service_stays}
use Rattle.iox_domain.proofs.port_laws.service.service_stays.Goals as goal

pub returns : goal.returns
returns g c = service_stays _ _ _
