use Rattle.iox_negotiate.proofs.Lives.{published-by-its-lock}
use Rattle.iox_negotiate.proofs.whole_calls.published_by_its_lock.Goals as goal

pub returns : goal.returns
returns c = published-by-its-lock
