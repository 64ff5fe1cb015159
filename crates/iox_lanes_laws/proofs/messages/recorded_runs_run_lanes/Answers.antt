use Rattle.iox_lanes_laws.proofs.RecordedRuns as laws
use Rattle.iox_lanes_laws.proofs.messages.recorded_runs_run_lanes.Goals as goal

pub returns-clause-steps : goal.returns-clause-steps
returns-clause-steps c = laws.steps_are_runs

pub returns-clause-follow : goal.returns-clause-follow
returns-clause-follow c = laws.runs_follow

pub returns-clause-lanes : goal.returns-clause-lanes
returns-clause-lanes c = laws.records_run_lanes
