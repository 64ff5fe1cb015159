use Rattle.std.proofs.Common.{subst}
use Rattle.iox_robust_steps.specs.Machine.{HasFewSteps, RobustSetState, IsOrderly, IsRecorded}
use Rattle.iox_robust_steps.specs.OfCalls.{StepsAreOfCalls}
use Rattle.iox_robust_steps.specs.State.{machine_of}
use Rattle.iox_robust_steps.proofs.Runs.{orderly}
use Rattle.iox_robust_steps.proofs.machine.RobustSetMachine.finished.Goals as goal

pub returns-clause-orderly : goal.returns-clause-orderly
returns-clause-orderly c = subst (λ (m : RobustSetState). HasFewSteps m → IsOrderly m) c.self.view_is
    (orderly (machine_of c.self.inside.state) c.self.invariant)

pub returns-clause-recorded : goal.returns-clause-recorded
returns-clause-recorded c = subst IsRecorded c.self.view_is c.self.invariant.recorded

pub returns-clause-counted : goal.returns-clause-counted
returns-clause-counted c = subst StepsAreOfCalls c.self.view_is c.self.invariant.counted
