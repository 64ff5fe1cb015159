use Rattle.iox_domain_machine.proofs.SentHeaders.{names_stay}
use Rattle.iox_domain_machine.proofs.names_in_use_stay.Goals as goal

pub returns : goal.returns
returns g c = names_stay _ _
