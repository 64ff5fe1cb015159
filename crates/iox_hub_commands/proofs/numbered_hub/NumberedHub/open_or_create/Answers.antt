use Rattle.std.proofs.Common.{refl}
use Rattle.iox_hub_commands.proofs.numbered_hub.NumberedHub.open_or_create.Goals as goal

pub returns-clause-does : goal.returns-clause-does
returns-clause-does g c = (c.open_or_create.result, rw c.as_slice.ensures at c.open_or_create.ensures.either, refl, c.factory_reply.ensures)
