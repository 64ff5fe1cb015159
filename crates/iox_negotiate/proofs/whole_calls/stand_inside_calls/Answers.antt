use Rattle.iox_negotiate.proofs.Calling.{stand-inside}
use Rattle.iox_negotiate.proofs.whole_calls.stand_inside_calls.Goals as goal

pub returns : goal.returns
returns g c = stand-inside _
