use Rattle.iox_domain_machine.proofs.PutHeaders.{headers_are_as_sent}
use Rattle.iox_domain_machine.proofs.headers_are_as_sent.Goals as goal

pub returns : goal.returns
returns g c = headers_are_as_sent _ _ _ _ _
