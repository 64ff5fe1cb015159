use Rattle.iox_lanes_machine.proofs.Runs as runs
use Rattle.iox_lanes_machine.proofs.laws.lanes_come_on.Goals as goal

pub returns-clause-steps : goal.returns-clause-steps
returns-clause-steps c = runs.steps_come_on

pub returns-clause-runs : goal.returns-clause-runs
returns-clause-runs c = runs.runs_come_on
