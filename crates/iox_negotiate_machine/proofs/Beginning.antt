-- A new table.
use Rattle.std.proofs.Common.{[], refl}
use Rattle.iox_negotiate_machine.specs.Laws.{NewTableStands}

pub new-stands : (T : Type 0) → NewTableStands T
new-stands T names id = record {
  reached = record { id = id; events = []; ran = refl };
  phases = λ pattern name asked. record { lives = refl; falling = tt; lies = refl; segments = λ number isnt. refl };
}
