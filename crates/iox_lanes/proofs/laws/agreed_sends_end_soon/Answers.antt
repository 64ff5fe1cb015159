use Rattle.iox_lanes.proofs.Sizing as laws
use Rattle.iox_lanes.proofs.laws.agreed_sends_end_soon.Goals as goal

pub returns : goal.returns
returns c = laws.agreed_sends_end_soon
