use Rattle.iox_negotiate_table.proofs.Opening.{opened-is-open}
use Rattle.iox_negotiate_table.proofs.laws.opened_is_open.Goals as goal

pub returns : goal.returns
returns c = opened-is-open
