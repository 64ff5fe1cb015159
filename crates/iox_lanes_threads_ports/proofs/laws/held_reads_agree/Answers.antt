use Rattle.iox_lanes_threads_ports.proofs.Holding as lemmas
use Rattle.iox_lanes_threads_ports.proofs.laws.held_reads_agree.Goals as goal

pub returns-clause-stay : goal.returns-clause-stay
returns-clause-stay c = lemmas.held_reads_stay

pub returns-clause-agree : goal.returns-clause-agree
returns-clause-agree c = lemmas.held_reads_agree

pub returns-clause-known : goal.returns-clause-known
returns-clause-known c = lemmas.held_reads_are_known
