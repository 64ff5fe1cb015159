use Rattle.iox_domain_machine.proofs.Headers.{header_matches}
use Rattle.iox_domain_machine.proofs.telling_a_header_matches.Goals as goal

pub returns : goal.returns
returns g c = header_matches _ _
