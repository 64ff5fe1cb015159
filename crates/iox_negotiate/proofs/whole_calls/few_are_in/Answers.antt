use Rattle.iox_negotiate.proofs.Tables.{reached-few}
use Rattle.iox_negotiate.proofs.whole_calls.few_are_in.Goals as goal

pub returns : goal.returns
returns c = reached-few
