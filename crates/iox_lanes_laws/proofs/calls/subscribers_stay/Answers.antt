use Rattle.iox_lanes_laws.proofs.SeatLaws as laws
use Rattle.iox_lanes_laws.proofs.calls.subscribers_stay.Goals as goal

pub returns : goal.returns
returns c = laws.subscribers_stay
