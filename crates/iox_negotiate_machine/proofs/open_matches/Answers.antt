use Rattle.iox_negotiate_machine.proofs.OpenCalls.{open-matches}
use Rattle.iox_negotiate_machine.proofs.open_matches.Goals as goal

pub returns : goal.returns
returns g c = open-matches _ _ _
