use Rattle.iox_negotiate_table.proofs.Staying.{stays}
use Rattle.iox_negotiate_table.proofs.laws.stays_open.Goals as goal

pub returns : goal.returns
returns c = stays
