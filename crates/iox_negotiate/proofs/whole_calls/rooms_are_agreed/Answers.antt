use Rattle.iox_negotiate.proofs.CallRooms.{rooms-are-agreed}
use Rattle.iox_negotiate.proofs.whole_calls.rooms_are_agreed.Goals as goal

pub returns : goal.returns
returns g c = rooms-are-agreed _
