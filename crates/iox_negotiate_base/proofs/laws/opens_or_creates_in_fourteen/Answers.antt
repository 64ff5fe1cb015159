use Rattle.iox_negotiate_base.proofs.RoundLengths.{either-rounds-length}
use Rattle.iox_negotiate_base.proofs.laws.opens_or_creates_in_fourteen.Goals as goal

pub returns : goal.returns
returns g c = either-rounds-length _
