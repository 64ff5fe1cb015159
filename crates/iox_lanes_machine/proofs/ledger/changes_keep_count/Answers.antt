use Rattle.iox_lanes_machine.proofs.Books as laws
use Rattle.iox_lanes_machine.proofs.ledger.changes_keep_count.Goals as goal

pub returns : goal.returns
returns c = laws.changes_keep_count
