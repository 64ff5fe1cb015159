use Rattle.iox_negotiate_base.proofs.Counting.{creates-locks}
use Rattle.iox_negotiate_base.proofs.laws.leaves_no_lock.Goals as goal

pub returns : goal.returns
returns c = creates-locks
