use Rattle.std.proofs.Common.{rules, ◌≡◌, [], get_or, subst, sym}
use Rattle.iox_lanes_machine.specs.Arrivals.{OrderArrives}
use Rattle.iox_lanes_machine.specs.Mailboxes.{OrderFollows}
use Rattle.iox_lanes_machine.specs.State.{world_of}
use Rattle.iox_lanes_machine.specs.World.{World}
use Rattle.iox_lanes_machine.proofs.Arrivals.{order_arrives}
use Rattle.iox_lanes_machine.proofs.Mailboxes.{order_follows}
use Rattle.iox_lanes_machine.proofs.lanes.LaneMachine.order.Goals as goal

pub returns-clause-follows : goal.returns-clause-follows
returns-clause-follows c =
    let is : c.args.self.now ≡ world_of c.self.inside.state = cc c.self.view_is in
    let value : c.order.result.now ≡ get_or c.args.self.now.orders c.args.connection [] = search rules in
    subst (OrderFollows c.args.self.now c.args.connection) (sym value)
    (subst (λ (m : World). OrderFollows m c.args.connection (get_or m.orders c.args.connection [])) (sym is)
    (order_follows (world_of c.self.inside.state) c.args.connection c.self.invariant))

pub returns-clause-arrives : goal.returns-clause-arrives
returns-clause-arrives c =
    let is : c.args.self.now ≡ world_of c.self.inside.state = cc c.self.view_is in
    let value : c.order.result.now ≡ get_or c.args.self.now.orders c.args.connection [] = search rules in
    subst (OrderArrives c.args.self.now c.args.connection) (sym value)
    (subst (λ (m : World). OrderArrives m c.args.connection (get_or m.orders c.args.connection [])) (sym is)
    (order_arrives (world_of c.self.inside.state) c.args.connection (get_or (world_of c.self.inside.state).orders c.args.connection [])
    (order_follows (world_of c.self.inside.state) c.args.connection c.self.invariant)))
