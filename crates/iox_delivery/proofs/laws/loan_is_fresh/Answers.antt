use Rattle.iox_delivery.proofs.Lent.{loan_is_fresh}
use Rattle.iox_delivery.proofs.laws.loan_is_fresh.Goals as goal

pub returns : goal.returns
returns g c = loan_is_fresh
