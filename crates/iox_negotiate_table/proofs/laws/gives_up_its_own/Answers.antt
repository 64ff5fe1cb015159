use Rattle.iox_negotiate_table.proofs.Owned.{gives-up}
use Rattle.iox_negotiate_table.proofs.laws.gives_up_its_own.Goals as goal

pub returns : goal.returns
returns c = gives-up
