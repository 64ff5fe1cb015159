use Rattle.iox_lanes.proofs.JoinedLanes.{joined_stays}
use Rattle.iox_lanes.proofs.laws.joined_stays.Goals as goal

pub returns : goal.returns
returns g c = joined_stays _ _
