use Rattle.iox_negotiate.proofs.Refusing.{refused-back}
use Rattle.iox_negotiate.proofs.whole_calls.refused_leaves_all.Goals as goal

pub returns : goal.returns
returns g c = refused-back _
