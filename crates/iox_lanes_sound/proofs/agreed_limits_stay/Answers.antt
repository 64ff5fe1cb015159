use Rattle.iox_lanes_sound.proofs.AgreedLimits as laws
use Rattle.iox_lanes_sound.proofs.agreed_limits_stay.Goals as goal

pub returns-clause-limits : goal.returns-clause-limits
returns-clause-limits c = laws.agreed_limits_stay

pub returns-clause-receives : goal.returns-clause-receives
returns-clause-receives c = laws.receives_look_as_agreed
