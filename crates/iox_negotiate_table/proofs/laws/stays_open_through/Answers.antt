use Rattle.iox_negotiate_table.proofs.Staying.{stays-through}
use Rattle.iox_negotiate_table.proofs.laws.stays_open_through.Goals as goal

pub returns : goal.returns
returns c = stays-through
