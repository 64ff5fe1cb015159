use Rattle.iox_negotiate_machine.proofs.Closing.{close-matches}
use Rattle.iox_negotiate_machine.proofs.close_matches.Goals as goal

pub returns : goal.returns
returns g c = close-matches _
