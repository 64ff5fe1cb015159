use Rattle.std.proofs.Common.{◌≡◌, ◌<◌, length, subst, sym}
use Rattle.iox_lanes_machine.specs.Owned.{MailIsOwn}
use Rattle.iox_lanes_machine.specs.Resting.{Rests, mail_at}
use Rattle.iox_lanes_machine.specs.State.{world_of}
use Rattle.iox_lanes_machine.specs.World.{World}
use Rattle.iox_lanes_machine.proofs.Mailboxes.{is_connection}
use Rattle.iox_lanes_machine.proofs.Owned.{mail_is_own}
use Rattle.iox_lanes_machine.proofs.RestingRings.{waits_between}
use Rattle.iox_lanes_machine.proofs.lanes.LaneMachine.waiting.Goals as goal

pub message_count-requires : goal.message_count-requires
message_count-requires c =
    let is : c.args.self.now ≡ world_of c.self.inside.state = cc c.self.view_is in
    is_connection (world_of c.self.inside.state) c.args.connection c.self.invariant
    (subst (λ (m : World). c.args.connection < length m.links) is c.requires)

pub returns-clause-waits : goal.returns-clause-waits
returns-clause-waits c =
    let is : c.args.self.now ≡ world_of c.self.inside.state = cc c.self.view_is in
    subst (λ (m : World). Rests m c.args.connection → c.message_count.result ≡ length (mail_at m c.args.connection)) (sym is)
    (waits_between (world_of c.self.inside.state) c.args.connection c.message_count.result c.self.invariant
    (subst (λ (m : World). c.args.connection < length m.links) is c.requires) c.message_count.ensures.between)

pub returns-clause-own : goal.returns-clause-own
returns-clause-own c =
    let is : c.args.self.now ≡ world_of c.self.inside.state = cc c.self.view_is in
    subst (λ (m : World). MailIsOwn m c.args.connection) (sym is)
    (mail_is_own (world_of c.self.inside.state) c.args.connection c.self.invariant)
