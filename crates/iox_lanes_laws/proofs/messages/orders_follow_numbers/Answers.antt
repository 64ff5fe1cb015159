use Rattle.iox_lanes_laws.proofs.NumberedRuns as lemmas
use Rattle.iox_lanes_laws.proofs.messages.orders_follow_numbers.Goals as goal

pub returns : goal.returns
returns c = lemmas.orders_follow_numbers
