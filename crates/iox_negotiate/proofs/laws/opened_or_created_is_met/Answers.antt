use Rattle.iox_negotiate.proofs.Meeting.{either-met}
use Rattle.iox_negotiate.proofs.laws.opened_or_created_is_met.Goals as goal

pub returns : goal.returns
returns g c = either-met _
