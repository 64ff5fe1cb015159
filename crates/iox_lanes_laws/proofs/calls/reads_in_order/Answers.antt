use Rattle.iox_lanes_laws.proofs.ReceiveLaws as laws
use Rattle.iox_lanes_laws.proofs.calls.reads_in_order.Goals as goal

pub returns : goal.returns
returns c = laws.reads_in_order
