use Rattle.iox_negotiate.proofs.Building.{builders-make-calls}
use Rattle.iox_negotiate.proofs.whole_calls.builders_make_calls.Goals as goal

pub returns : goal.returns
returns g c = builders-make-calls _ _ _ _
