use Rattle.iox_negotiate_base.proofs.Counting.{creates-segments}
use Rattle.iox_negotiate_base.proofs.laws.refused_leaves_no_segment.Goals as goal

pub returns : goal.returns
returns c = creates-segments
