use Rattle.iox_domain.proofs.Keyed.{keys_stay}
use Rattle.iox_domain.proofs.port_laws.messages.keys_stay.Goals as goal

pub returns : goal.returns
returns g c = keys_stay _ _ _
