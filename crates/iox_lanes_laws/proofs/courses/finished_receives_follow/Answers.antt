use Rattle.iox_lanes_laws.proofs.FinishedReceives as laws
use Rattle.iox_lanes_laws.proofs.courses.finished_receives_follow.Goals as goal

pub returns : goal.returns
returns c = laws.finished_receives_follow
