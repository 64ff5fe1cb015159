use Rattle.std.proofs.Common.{subst}
use Rattle.iox_lanes_machine.specs.Sends.{SendsFollow}
use Rattle.iox_lanes_laws.specs.Recorded.{RecordState}
use Rattle.iox_lanes_laws.proofs.messages.recorded.Lanes.finished.Goals as goal

pub returns-clause-sends : goal.returns-clause-sends
returns-clause-sends c = subst (λ (r : RecordState). SendsFollow r.lanes) c.self.view_is c.finished.ensures.sends
