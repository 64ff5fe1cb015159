use Rattle.std.proofs.Common.{arith, ap, ◌≡◌, ◌<◌, Some, length, slice_get, subst, sym}
use Rattle.iox_lanes_machine.specs.Resting.{Rests, mail_at}
use Rattle.iox_lanes_machine.specs.State.{world_of}
use Rattle.iox_lanes_machine.specs.World.{World}
use Rattle.iox_lanes_machine.proofs.Mailboxes.{is_connection}
use Rattle.iox_lanes_machine.proofs.RestingRings.{waits_in_cell}
use Rattle.iox_lanes_machine.proofs.lanes.LaneMachine.waiting_slot.Goals as goal

pub positions-positions-requires : goal.positions-positions-requires
positions-positions-requires c =
    let is : c.args.self.now ≡ world_of c.self.inside.state = cc c.self.view_is in
    is_connection (world_of c.self.inside.state) c.args.connection c.self.invariant
    (subst (λ (m : World). c.args.connection < length m.links) is c.requires)

pub message_at-requires-clause-there : goal.message_at-requires-clause-there
message_at-requires-clause-there c =
    let is : c.args.self.now ≡ world_of c.self.inside.state = cc c.self.view_is in
    subst (λ (m : World). c.args.connection < length m.links) is c.requires

pub returns : goal.returns
returns c =
    let is : c.args.self.now ≡ world_of c.self.inside.state = cc c.self.view_is in
    subst (λ (m : World). Rests m c.args.connection → c.args.at < length (mail_at m c.args.connection)
    → slice_get (mail_at m c.args.connection) c.args.at ≡ Some c.message_at.result) (sym is)
    (waits_in_cell (world_of c.self.inside.state) c.args.connection c.args.at c.saturating_add.result c.message_at.result c.self.invariant
    (subst (λ (m : World). c.args.connection < length m.links) is c.requires) c.message_at.ensures
    (λ fits. omega (arith, fits, c.saturating_add.ensures, ap (λ p. p.submission_read) c.positions-positions.ensures)))
