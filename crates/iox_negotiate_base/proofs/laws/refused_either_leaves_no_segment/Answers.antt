use Rattle.iox_negotiate_base.proofs.RoundCounts.{either-segments}
use Rattle.iox_negotiate_base.proofs.laws.refused_either_leaves_no_segment.Goals as goal

pub returns : goal.returns
returns g c = either-segments _
