use Rattle.iox_negotiate.proofs.Counting.{factories-counted}
use Rattle.iox_negotiate.proofs.whole_calls.factories_are_counted.Goals as goal

pub returns : goal.returns
returns g c = factories-counted _
