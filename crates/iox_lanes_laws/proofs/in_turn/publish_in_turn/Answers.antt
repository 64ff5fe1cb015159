use Rattle.iox_lanes_laws.proofs.PublisherLaws as laws
use Rattle.iox_lanes_laws.proofs.in_turn.publish_in_turn.Goals as goal

pub returns-clause-loans : goal.returns-clause-loans
returns-clause-loans c = laws.loans_in_turn

pub returns-clause-writes : goal.returns-clause-writes
returns-clause-writes c = laws.writes_in_turn

pub returns-clause-sends : goal.returns-clause-sends
returns-clause-sends c = laws.sends_in_turn

pub returns-clause-drops : goal.returns-clause-drops
returns-clause-drops c = laws.drops_in_turn
