use Rattle.iox_lanes_laws.proofs.ChangeLaws as laws
use Rattle.iox_lanes_laws.proofs.calls.subscribers_keep_pace.Goals as goal

pub returns : goal.returns
returns c = laws.subscribers_keep_pace
