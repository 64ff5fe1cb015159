-- Lanes hold together.
use Rattle.std.proofs.Common.{◌≤◌, ◌^◌}
use Rattle.iox_lanes_machine.specs.Kept.{IsKept}
use Rattle.iox_lanes_machine.specs.Together.{HoldTogether}
use Rattle.iox_lanes_machine.specs.World.{World}
use Rattle.iox_lanes_machine.proofs.Connected.{sends_connected}

pub lanes_together : (m : World) → IsKept m → m.moments ≤ 2 ^ 63 → HoldTogether m
lanes_together m k few = record {
  few = few;
  within = k.within;
  rings = k.rings few;
  returns = k.returns;
  connections = sends_connected m (k.sends few);
  loans = k.loans;
  uses = k.uses few;
  reads = k.reads;
  held = k.held few;
}
