use Rattle.iox_domain.proofs.GivenOut.{numbers_stay}
use Rattle.iox_domain.proofs.port_laws.numbering.numbers_stay.Goals as goal

pub returns : goal.returns
returns g c = numbers_stay _ _ _
