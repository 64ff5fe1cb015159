use Rattle.std.proofs.Common.{refl}
use Rattle.iox_hub_commands.proofs.numbered_hub.NumberedHub.carry_out_port.Goals as goal

pub returns-in-Put : goal.returns-in-Put
returns-in-Put g c = record { pledged = rw c.in-Put.is refl; finds = tt; steps = rw c.in-Put.is (rw c.values-in-Put.view_is at c.put.ensures, refl) }
