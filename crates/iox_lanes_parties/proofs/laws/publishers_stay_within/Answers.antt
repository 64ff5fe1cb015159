use Rattle.iox_lanes_parties.proofs.PublishersWithin as lemmas
use Rattle.iox_lanes_parties.proofs.laws.publishers_stay_within.Goals as goal

pub returns : goal.returns
returns c = lemmas.publishers_stay_within
