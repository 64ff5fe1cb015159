use Rattle.iox_negotiate_machine.proofs.OpenCalls.{open-or-create-matches}
use Rattle.iox_negotiate_machine.proofs.open_or_create_matches.Goals as goal

pub returns : goal.returns
returns g c = open-or-create-matches _ _ _
