use Rattle.std.proofs.Common.{refl}
use Rattle.iox_hub_commands.proofs.numbered_hub.NumberedHub.foreign.Goals as goal

pub returns-clause-does : goal.returns-clause-does
returns-clause-does g c = (c.foreign.result, rw c.as_slice.ensures at c.foreign.ensures, refl, c.foreign_reply.ensures)
