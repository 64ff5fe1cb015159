use Rattle.iox_negotiate.proofs.Lives.{one-life}
use Rattle.iox_negotiate.proofs.whole_calls.one_life.Goals as goal

pub returns : goal.returns
returns c = one-life
