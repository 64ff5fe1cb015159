use Rattle.iox_negotiate_base.proofs.Counting.{creates-service}
use Rattle.iox_negotiate_base.proofs.laws.created_is_published.Goals as goal

pub returns : goal.returns
returns c = creates-service
