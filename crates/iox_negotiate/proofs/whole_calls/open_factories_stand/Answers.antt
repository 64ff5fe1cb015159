use Rattle.iox_negotiate.proofs.Calling.{factories-stand}
use Rattle.iox_negotiate.proofs.whole_calls.open_factories_stand.Goals as goal

pub returns : goal.returns
returns g c = factories-stand _
