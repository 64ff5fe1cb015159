use Rattle.std.proofs.Common.{subst}
use Rattle.iox_lanes_machine.specs.Mailboxes.{PositionsNear}
use Rattle.iox_lanes_laws.specs.Recorded.{RecordState}
use Rattle.iox_lanes_laws.proofs.messages.recorded.Lanes.position.Goals as goal

pub returns-clause-near : goal.returns-clause-near
returns-clause-near c =
    subst (λ (r : RecordState). PositionsNear r.lanes c.args.connection c.position.result) c.self.view_is c.position.ensures.near
