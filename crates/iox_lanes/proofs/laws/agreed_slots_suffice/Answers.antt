use Rattle.iox_lanes.proofs.Sizing as laws
use Rattle.iox_lanes.proofs.laws.agreed_slots_suffice.Goals as goal

pub returns : goal.returns
returns c = laws.agreed_slots_suffice
