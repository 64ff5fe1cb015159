use Rattle.std.proofs.Common.{◌≡◌, subst, sym}
use Rattle.iox_lanes_machine.specs.Owned.{HistoriesAreOwn}
use Rattle.iox_lanes_machine.specs.State.{world_of}
use Rattle.iox_lanes_machine.proofs.Owned.{histories_are_own}
use Rattle.iox_lanes_machine.proofs.lanes.LaneMachine.publishers.Goals as goal

pub returns-clause-histories : goal.returns-clause-histories
returns-clause-histories c =
    let is : c.args.self.now ≡ world_of c.self.inside.state = cc c.self.view_is in
    subst HistoriesAreOwn (sym is) (histories_are_own (world_of c.self.inside.state) c.self.invariant)
