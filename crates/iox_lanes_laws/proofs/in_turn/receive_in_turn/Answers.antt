use Rattle.iox_lanes_laws.proofs.Receives as receiving
use Rattle.iox_lanes_laws.proofs.Samples as samples
use Rattle.iox_lanes_laws.proofs.in_turn.receive_in_turn.Goals as goal

pub returns-clause-receives : goal.returns-clause-receives
returns-clause-receives c = receiving.receives_in_turn

pub returns-clause-reads : goal.returns-clause-reads
returns-clause-reads c = samples.reads_in_turn

pub returns-clause-releases : goal.returns-clause-releases
returns-clause-releases c = samples.releases_in_turn
