use Rattle.iox_lanes_laws.proofs.ChangeLaws as laws
use Rattle.iox_lanes_laws.proofs.calls.limits_hold.Goals as goal

pub returns : goal.returns
returns c = laws.limits_hold
