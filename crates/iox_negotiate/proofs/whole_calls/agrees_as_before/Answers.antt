use Rattle.iox_negotiate.proofs.Agreements.{agrees}
use Rattle.iox_negotiate.proofs.whole_calls.agrees_as_before.Goals as goal

pub returns : goal.returns
returns g c = agrees _
