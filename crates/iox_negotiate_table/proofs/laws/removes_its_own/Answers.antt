use Rattle.iox_negotiate_table.proofs.Owned.{removes}
use Rattle.iox_negotiate_table.proofs.laws.removes_its_own.Goals as goal

pub returns : goal.returns
returns c = removes
