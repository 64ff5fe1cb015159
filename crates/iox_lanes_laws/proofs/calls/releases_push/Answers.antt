use Rattle.iox_lanes_laws.proofs.ReceiveLaws as laws
use Rattle.iox_lanes_laws.proofs.calls.releases_push.Goals as goal

pub returns : goal.returns
returns c = laws.releases_push
