use Rattle.std.proofs.Common.{ℕ, ◌≡◌, ◌≤◌, ◌^◌, subst, sym}
use Rattle.iox_lanes_machine.specs.Mailboxes.{PositionsNear, positions_of}
use Rattle.iox_lanes_machine.specs.Owned.{HistoriesAreOwn, MailHasRoom, MailIsOwn}
use Rattle.iox_lanes_machine.specs.State.{world_of}
use Rattle.iox_lanes_machine.specs.Together.{HoldTogether}
use Rattle.iox_lanes_machine.specs.World.{World}
use Rattle.iox_lanes_machine.proofs.Mailboxes.{positions_near}
use Rattle.iox_lanes_machine.proofs.Owned.{histories_are_own, mail_is_own}
use Rattle.iox_lanes_machine.proofs.RestingRings.{mail_has_room}
use Rattle.iox_lanes_machine.proofs.Together.{lanes_together}
use Rattle.iox_lanes_machine.proofs.lanes.LaneMachine.are_of_one_service.Goals as goal

pub returns-clause-near : goal.returns-clause-near
returns-clause-near c =
    let is : c.args.self.now ≡ world_of c.self.inside.state = cc c.self.view_is in
    subst (λ (m : World). (connection : ℕ) → PositionsNear m connection (positions_of m.table connection)) (sym is)
    (λ connection. positions_near (world_of c.self.inside.state) connection c.self.invariant)

pub returns-clause-mail : goal.returns-clause-mail
returns-clause-mail c =
    let is : c.args.self.now ≡ world_of c.self.inside.state = cc c.self.view_is in
    subst (λ (m : World). (connection : ℕ) → MailIsOwn m connection) (sym is)
    (λ connection. mail_is_own (world_of c.self.inside.state) connection c.self.invariant)

pub returns-clause-room : goal.returns-clause-room
returns-clause-room c =
    let is : c.args.self.now ≡ world_of c.self.inside.state = cc c.self.view_is in
    subst (λ (m : World). (connection : ℕ) → MailHasRoom m connection) (sym is)
    (λ connection. mail_has_room (world_of c.self.inside.state) connection c.self.invariant)

pub returns-clause-histories : goal.returns-clause-histories
returns-clause-histories c =
    let is : c.args.self.now ≡ world_of c.self.inside.state = cc c.self.view_is in
    subst HistoriesAreOwn (sym is) (histories_are_own (world_of c.self.inside.state) c.self.invariant)

pub returns-clause-together : goal.returns-clause-together
returns-clause-together c =
    let is : c.args.self.now ≡ world_of c.self.inside.state = cc c.self.view_is in
    subst (λ (m : World). m.moments ≤ 2 ^ 63 → HoldTogether m) (sym is) (lanes_together (world_of c.self.inside.state) c.self.invariant)
