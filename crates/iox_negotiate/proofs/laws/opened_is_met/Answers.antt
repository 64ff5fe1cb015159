use Rattle.iox_negotiate.proofs.Meeting.{opens-met}
use Rattle.iox_negotiate.proofs.laws.opened_is_met.Goals as goal

pub returns : goal.returns
returns g c = opens-met _
