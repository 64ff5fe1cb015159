use Rattle.iox_lanes_laws.proofs.RecordedRuns as laws
use Rattle.iox_lanes_laws.proofs.messages.full_runs_leave_none_out.Goals as goal

pub returns-clause-lanes : goal.returns-clause-lanes
returns-clause-lanes c = laws.full_runs_go

pub returns-clause-recorded : goal.returns-clause-recorded
returns-clause-recorded c = laws.full_runs_are_recorded
