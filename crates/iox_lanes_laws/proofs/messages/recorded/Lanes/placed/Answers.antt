use Rattle.std.proofs.Common.{subst}
use Rattle.iox_lanes_machine.specs.Mailboxes.{OrderFollows}
use Rattle.iox_lanes_laws.specs.Recorded.{RecordState}
use Rattle.iox_lanes_laws.proofs.messages.recorded.Lanes.placed.Goals as goal

pub returns-clause-follows : goal.returns-clause-follows
returns-clause-follows c =
    subst (λ (r : RecordState). OrderFollows r.lanes c.args.connection c.order.result.now) c.self.view_is c.order.ensures.follows
