use Rattle.iox_negotiate.proofs.Closing.{closes-one}
use Rattle.iox_negotiate.proofs.whole_calls.closes_one.Goals as goal

pub returns : goal.returns
returns c = closes-one
