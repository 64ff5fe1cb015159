use Rattle.iox_negotiate.proofs.CountingInside.{counted-inside}
use Rattle.iox_negotiate.proofs.whole_calls.counted_inside_calls.Goals as goal

pub returns : goal.returns
returns g c = counted-inside _
