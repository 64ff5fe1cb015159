use Rattle.iox_negotiate_machine.proofs.Factories.{open-is-published}
use Rattle.iox_negotiate_machine.proofs.open_is_published.Goals as goal

pub returns : goal.returns
returns g c = open-is-published _
