use Rattle.iox_negotiate_machine.proofs.Looking.{look-matches}
use Rattle.iox_negotiate_machine.proofs.look_matches.Goals as goal

pub returns : goal.returns
returns g c = look-matches _
