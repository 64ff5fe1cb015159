use Rattle.std.proofs.Common.{refl}
use Rattle.iox_hub_commands.proofs.numbered_hub.NumberedHub.open.Goals as goal

pub returns-clause-does : goal.returns-clause-does
returns-clause-does g c = (c.open.result, rw c.as_slice.ensures at c.open.ensures.opens, refl, c.factory_reply.ensures)
