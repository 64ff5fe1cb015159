use Rattle.iox_domain_machine.proofs.Headers.{user_header_stands}
use Rattle.iox_domain_machine.proofs.writing_a_user_header_stands.Goals as goal

pub returns : goal.returns
returns g c = user_header_stands _ _
