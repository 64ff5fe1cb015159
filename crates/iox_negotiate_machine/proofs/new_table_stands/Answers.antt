use Rattle.iox_negotiate_machine.proofs.Beginning.{new-stands}
use Rattle.iox_negotiate_machine.proofs.new_table_stands.Goals as goal

pub returns : goal.returns
returns g c = new-stands _
