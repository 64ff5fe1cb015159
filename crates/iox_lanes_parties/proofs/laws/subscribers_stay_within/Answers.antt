use Rattle.iox_lanes_parties.proofs.SubscribersWithin as lemmas
use Rattle.iox_lanes_parties.proofs.laws.subscribers_stay_within.Goals as goal

pub returns : goal.returns
returns c = lemmas.subscribers_stay_within
