use Rattle.std.proofs.Common.{rules, ◌≡◌, ◌<◌, length, subst, sym}
use Rattle.iox_lanes_machine.specs.Mailboxes.{PositionsNear, positions_of}
use Rattle.iox_lanes_machine.specs.Returns.{ReturnsNear}
use Rattle.iox_lanes_machine.specs.State.{world_of}
use Rattle.iox_lanes_machine.specs.World.{World}
use Rattle.iox_lanes_machine.proofs.Mailboxes.{is_connection, positions_near, returns_near}
use Rattle.iox_lanes_machine.proofs.lanes.LaneMachine.position.Goals as goal

pub positions-requires : goal.positions-requires
positions-requires c =
    let is : c.args.self.now ≡ world_of c.self.inside.state = cc c.self.view_is in
    is_connection (world_of c.self.inside.state) c.args.connection c.self.invariant
    (subst (λ (m : World). c.args.connection < length m.links) is c.requires)

pub returns-clause-near : goal.returns-clause-near
returns-clause-near c =
    let is : c.args.self.now ≡ world_of c.self.inside.state = cc c.self.view_is in
    let value : c.positions.result ≡ positions_of c.args.self.now.table c.args.connection = search rules in
    subst (PositionsNear c.args.self.now c.args.connection) (sym value)
    (subst (λ (m : World). PositionsNear m c.args.connection (positions_of m.table c.args.connection)) (sym is)
    (positions_near (world_of c.self.inside.state) c.args.connection c.self.invariant))

pub returns-clause-back : goal.returns-clause-back
returns-clause-back c =
    let is : c.args.self.now ≡ world_of c.self.inside.state = cc c.self.view_is in
    let value : c.positions.result ≡ positions_of c.args.self.now.table c.args.connection = search rules in
    subst (ReturnsNear c.args.self.now) (sym value)
    (subst (λ (m : World). ReturnsNear m (positions_of m.table c.args.connection)) (sym is)
    (returns_near (world_of c.self.inside.state) c.args.connection c.self.invariant
    (subst (λ (m : World). c.args.connection < length m.links) is c.requires)))
