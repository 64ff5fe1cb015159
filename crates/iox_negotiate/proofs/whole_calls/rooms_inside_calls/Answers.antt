use Rattle.iox_negotiate.proofs.CallRooms.{agreed-inside}
use Rattle.iox_negotiate.proofs.whole_calls.rooms_inside_calls.Goals as goal

pub returns : goal.returns
returns g c = agreed-inside _
