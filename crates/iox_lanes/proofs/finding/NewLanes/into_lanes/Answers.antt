use Rattle.iox_lanes.proofs.Found.{between}
use Rattle.iox_lanes.proofs.finding.NewLanes.into_lanes.Goals as goal

pub returns-clause-between : goal.returns-clause-between
returns-clause-between c = between c.self.inside.sizes c.self.inside.lanes c.self.invariant.was
