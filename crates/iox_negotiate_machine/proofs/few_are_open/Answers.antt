use Rattle.iox_negotiate_machine.proofs.Factories.{few-are-open}
use Rattle.iox_negotiate_machine.proofs.few_are_open.Goals as goal

pub returns : goal.returns
returns g c = few-are-open _
