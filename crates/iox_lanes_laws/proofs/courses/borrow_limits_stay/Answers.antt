use Rattle.iox_lanes_laws.proofs.StandingSubscribers as laws
use Rattle.iox_lanes_laws.proofs.courses.borrow_limits_stay.Goals as goal

pub returns-clause-runs : goal.returns-clause-runs
returns-clause-runs c = laws.runs_keep_limits

pub returns-clause-leads : goal.returns-clause-leads
returns-clause-leads c = laws.entries_keep_limits
