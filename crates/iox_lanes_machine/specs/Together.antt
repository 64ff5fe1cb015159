-- What every step of lanes keeps of their words, ports and slots, without the orders and the calls that ended.
use Rattle.std.specs.Prelude.{◌≤◌, ◌^◌}
use Rattle.iox_lanes_machine.specs.Held.{ReadsHold}
use Rattle.iox_lanes_machine.specs.Kept.{IsWithin, AreKept}
use Rattle.iox_lanes_machine.specs.Reads.{ReadsLie}
use Rattle.iox_lanes_machine.specs.Returns.{ReturnsKept}
use Rattle.iox_lanes_machine.specs.Sends.{AreConnected}
use Rattle.iox_lanes_machine.specs.Slots.{LoansStand}
use Rattle.iox_lanes_machine.specs.Uses.{UsesKept}
use Rattle.iox_lanes_machine.specs.World.{World}

-- Words, ports and slots of lanes that made at most 2^63 steps agree: both rings of each connection contain what their ends know,
-- publishers write only into loans of their own, each connection has the slots that its publisher's record says, and what a read loaded so
-- far is what its slot contains.
pub record HoldTogether (m : World) : Type 0 where
  pub few : m.moments ≤ 2 ^ 63
  pub within : IsWithin m
  pub rings : AreKept m
  pub returns : ReturnsKept m
  pub connections : AreConnected m
  pub loans : LoansStand m
  pub uses : UsesKept m
  pub reads : ReadsLie m
  pub held : ReadsHold m
