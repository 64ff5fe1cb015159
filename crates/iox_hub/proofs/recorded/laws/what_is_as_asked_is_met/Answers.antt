use Rattle.iox_hub.proofs.AskedWords.{as_asked_is_met}
use Rattle.iox_hub.proofs.recorded.laws.what_is_as_asked_is_met.Goals as goal

pub returns : goal.returns
returns c = as_asked_is_met
