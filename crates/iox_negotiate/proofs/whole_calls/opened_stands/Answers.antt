use Rattle.iox_negotiate.proofs.Tables.{opened-stands}
use Rattle.iox_negotiate.proofs.whole_calls.opened_stands.Goals as goal

pub returns : goal.returns
returns c = opened-stands
