use Rattle.iox_negotiate_machine.proofs.CreateCalls.{create-matches}
use Rattle.iox_negotiate_machine.proofs.create_matches.Goals as goal

pub returns : goal.returns
returns g c = create-matches _ _
