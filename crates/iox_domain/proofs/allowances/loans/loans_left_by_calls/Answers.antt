use Rattle.iox_domain.proofs.AllowancesCalling.{loans_left_by_calls}
use Rattle.iox_domain.proofs.allowances.loans.loans_left_by_calls.Goals as goal

pub returns : goal.returns
returns g c = loans_left_by_calls _ _ _
