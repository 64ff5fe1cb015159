use Rattle.std.proofs.Common.{refl}
use Rattle.iox_hub_commands.proofs.numbered_hub.NumberedHub.create.Goals as goal

pub returns-clause-does : goal.returns-clause-does
returns-clause-does g c = (c.create.result, rw c.as_slice.ensures at c.create.ensures.creates, refl, c.factory_reply.ensures)
