use Rattle.std.proofs.Common.{subst}
use Rattle.iox_index_steps.specs.Machine.{HasFewChanges, IndexSetState, IsOrderly, IsRecorded}
use Rattle.iox_index_steps.specs.OfCalls.{StepsAreOfCalls}
use Rattle.iox_index_steps.specs.State.{machine_of}
use Rattle.iox_index_steps.proofs.Runs.{orderly}
use Rattle.iox_index_steps.proofs.machine.IndexSetMachine.events.Goals as goal

pub returns-clause-orderly : goal.returns-clause-orderly
returns-clause-orderly c = subst (λ (m : IndexSetState). HasFewChanges m → IsOrderly m) c.self.view_is
    (orderly (machine_of c.self.inside.state) c.self.invariant.0)

pub returns-clause-recorded : goal.returns-clause-recorded
returns-clause-recorded c = subst IsRecorded c.self.view_is c.self.invariant.0.recorded

pub returns-clause-counted : goal.returns-clause-counted
returns-clause-counted c = subst StepsAreOfCalls c.self.view_is c.self.invariant.0.counted
