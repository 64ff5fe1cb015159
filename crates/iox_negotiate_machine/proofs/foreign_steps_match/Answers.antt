use Rattle.iox_negotiate_machine.proofs.Acted.{steps-match}
use Rattle.iox_negotiate_machine.proofs.foreign_steps_match.Goals as goal

pub returns : goal.returns
returns g c = steps-match _
