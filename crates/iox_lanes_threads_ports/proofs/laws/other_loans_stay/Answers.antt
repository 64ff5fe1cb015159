use Rattle.iox_lanes_threads_ports.proofs.OtherHeads.{calls_keep_heads}
use Rattle.iox_lanes_threads_ports.proofs.OtherLoans.{spared_payloads_stay, calls_keep_payloads}
use Rattle.iox_lanes_threads_ports.proofs.laws.other_loans_stay.Goals as goal

pub returns-clause-steps : goal.returns-clause-steps
returns-clause-steps c = spared_payloads_stay

pub returns-clause-calls : goal.returns-clause-calls
returns-clause-calls c = calls_keep_payloads

pub returns-clause-headers : goal.returns-clause-headers
returns-clause-headers c = calls_keep_heads
