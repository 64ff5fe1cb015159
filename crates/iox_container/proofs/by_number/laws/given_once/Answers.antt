use Rattle.iox_container.proofs.Giving.{given_once}
use Rattle.iox_container.proofs.by_number.laws.given_once.Goals as goal

pub returns : goal.returns
returns g c = given_once _
