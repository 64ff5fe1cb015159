use Rattle.iox_domain_machine.proofs.Beginning.{new_stands}
use Rattle.iox_domain_machine.proofs.new_ports_stand.Goals as goal

pub returns : goal.returns
returns g c = new_stands _ _
