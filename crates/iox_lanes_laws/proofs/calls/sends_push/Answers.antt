use Rattle.iox_lanes_laws.proofs.SendLaws as laws
use Rattle.iox_lanes_laws.proofs.calls.sends_push.Goals as goal

pub returns : goal.returns
returns c = laws.sends_push
