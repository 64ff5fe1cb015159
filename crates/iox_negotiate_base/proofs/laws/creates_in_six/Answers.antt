use Rattle.iox_negotiate_base.proofs.Counting.{creates-length}
use Rattle.iox_negotiate_base.proofs.laws.creates_in_six.Goals as goal

pub returns : goal.returns
returns c = creates-length
