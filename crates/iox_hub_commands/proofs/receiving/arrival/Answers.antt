use Rattle.std.proofs.Common.{refl}
use Rattle.iox_hub_commands.proofs.receiving.arrival.Goals as goal

pub returns : goal.returns
returns g c = rw (← c.payload.ensures, c.in-Some.is) (c.in_ok-copied.field-0, c.in_ok-copied.ensures.copy, refl)
