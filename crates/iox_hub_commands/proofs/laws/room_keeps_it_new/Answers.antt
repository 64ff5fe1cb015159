use Rattle.iox_hub_commands.proofs.Rooms.{still_new}
use Rattle.iox_hub_commands.proofs.laws.room_keeps_it_new.Goals as goal

pub returns : goal.returns
returns g c = still_new
