use Rattle.iox_lanes_laws.proofs.SeatLaws as laws
use Rattle.iox_lanes_laws.proofs.calls.publishers_stay.Goals as goal

pub returns : goal.returns
returns c = laws.publishers_stay
