use Rattle.iox_negotiate.proofs.Lives.{taken-once}
use Rattle.iox_negotiate.proofs.whole_calls.taken_once.Goals as goal

pub returns : goal.returns
returns c = taken-once
