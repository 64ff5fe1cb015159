use Rattle.iox_negotiate_table.proofs.Opening.{created-is-open}
use Rattle.iox_negotiate_table.proofs.laws.created_is_open.Goals as goal

pub returns : goal.returns
returns c = created-is-open
