use Rattle.iox_negotiate_base.proofs.RoundLengths.{opens-length}
use Rattle.iox_negotiate_base.proofs.laws.opens_in_ten.Goals as goal

pub returns : goal.returns
returns g c = opens-length _
