use Rattle.iox_lanes_laws.proofs.CourseLaws as laws
use Rattle.iox_lanes_laws.proofs.calls.writes_store.Goals as goal

pub returns : goal.returns
returns c = laws.writes_store
