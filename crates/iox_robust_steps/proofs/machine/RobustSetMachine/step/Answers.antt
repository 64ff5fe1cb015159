use Rattle.std.proofs.Common.{subst, arith}
use Rattle.iox_robust_steps.specs.Machine.{HasFewSteps, RobustSetState, StaysLocked}
use Rattle.iox_robust_steps.specs.Kept.{IsKept}
use Rattle.iox_robust_steps.specs.OfCalls.{TellsStep}
use Rattle.iox_robust_steps.specs.State.{machine_of}
use Rattle.iox_robust_steps.proofs.OfCalls.{steps_tell}
use Rattle.iox_robust_steps.specs.Recovering.{FreesOnlyItsOwn}
use Rattle.iox_robust_steps.proofs.Recovering.{steps_free}
use Rattle.iox_robust_steps.proofs.Runs.{orderly, steps_go, steps_keep}
use Rattle.iox_robust_steps.proofs.machine.RobustSetMachine.step.Goals as goal

pub step-requires : goal.step-requires
step-requires c = omega (arith, c.self.invariant.cells)

pub invariant_of-self : goal.invariant_of-self
invariant_of-self c = steps_keep (machine_of c.self.inside.state) c.args.step c.step.result (machine_of c.step.new.self) c.step.ensures
    c.self.invariant

pub returns-clause-orderly : goal.returns-clause-orderly
returns-clause-orderly c =
    orderly (machine_of c.step.new.self)
    (steps_keep (machine_of c.self.inside.state) c.args.step c.step.result (machine_of c.step.new.self) c.step.ensures
    c.self.invariant)

pub returns-clause-locked : goal.returns-clause-locked
returns-clause-locked c = λ few.
    let goes : HasFewSteps (machine_of c.self.inside.state) × StaysLocked (machine_of c.self.inside.state) (machine_of c.step.new.self) =
    steps_go (machine_of c.self.inside.state) c.args.step c.step.result (machine_of c.step.new.self) c.step.ensures
    c.self.invariant few in
    subst (λ (m : RobustSetState). StaysLocked m (machine_of c.step.new.self)) c.self.view_is goes.1

pub returns-clause-few : goal.returns-clause-few
returns-clause-few c = λ few.
    let goes : HasFewSteps (machine_of c.self.inside.state) × StaysLocked (machine_of c.self.inside.state) (machine_of c.step.new.self) =
    steps_go (machine_of c.self.inside.state) c.args.step c.step.result (machine_of c.step.new.self) c.step.ensures
    c.self.invariant few in
    subst HasFewSteps c.self.view_is goes.0

pub returns-clause-recorded : goal.returns-clause-recorded
returns-clause-recorded c =
    let kept : IsKept (machine_of c.step.new.self)
    = steps_keep (machine_of c.self.inside.state) c.args.step c.step.result (machine_of c.step.new.self) c.step.ensures
    c.self.invariant in
    kept.recorded

pub returns-clause-counted : goal.returns-clause-counted
returns-clause-counted c =
    let kept : IsKept (machine_of c.step.new.self)
    = steps_keep (machine_of c.self.inside.state) c.args.step c.step.result (machine_of c.step.new.self) c.step.ensures
    c.self.invariant in
    kept.counted

pub returns-clause-tells : goal.returns-clause-tells
returns-clause-tells c = subst (λ (m : RobustSetState). TellsStep m c.args.step c.step.result (machine_of c.step.new.self)) c.self.view_is
    (steps_tell (machine_of c.self.inside.state) c.args.step c.step.result (machine_of c.step.new.self) c.step.ensures)

pub returns-clause-recovers : goal.returns-clause-recovers
returns-clause-recovers c = subst (λ (m : RobustSetState). FreesOnlyItsOwn m c.args.step (machine_of c.step.new.self)) c.self.view_is
    (steps_free (machine_of c.self.inside.state) c.args.step c.step.result (machine_of c.step.new.self) c.step.ensures c.self.invariant)
