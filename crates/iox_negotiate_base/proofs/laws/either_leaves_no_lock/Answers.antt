use Rattle.iox_negotiate_base.proofs.RoundCounts.{either-locks}
use Rattle.iox_negotiate_base.proofs.laws.either_leaves_no_lock.Goals as goal

pub returns : goal.returns
returns g c = either-locks _
