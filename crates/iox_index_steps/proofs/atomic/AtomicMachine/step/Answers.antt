use Rattle.std.proofs.Common.{subst}
use Rattle.iox_index_steps.specs.AtomicKept.{IsKept}
use Rattle.iox_index_steps.specs.AtomicMachine.{AtomicState, TellsStep}
use Rattle.iox_index_steps.specs.AtomicView.{machine_of}
use Rattle.iox_index_steps.proofs.AtomicOfCalls.{steps_tell}
use Rattle.iox_index_steps.proofs.AtomicRuns.{all_told, moves_once, short_few, steps_keep}
use Rattle.iox_index_steps.proofs.atomic.AtomicMachine.step.Goals as goal

pub invariant_of-self : goal.invariant_of-self
invariant_of-self c = steps_keep (machine_of c.self.inside.state) c.args.step c.step.result (machine_of c.step.new.self) c.step.ensures
    c.self.invariant

pub returns-clause-recorded : goal.returns-clause-recorded
returns-clause-recorded c =
    let kept : IsKept (machine_of c.step.new.self)
    = steps_keep (machine_of c.self.inside.state) c.args.step c.step.result (machine_of c.step.new.self) c.step.ensures
    c.self.invariant in
    kept.recorded

pub returns-clause-told : goal.returns-clause-told
returns-clause-told c = all_told (machine_of c.step.new.self)
    (steps_keep (machine_of c.self.inside.state) c.args.step c.step.result (machine_of c.step.new.self) c.step.ensures c.self.invariant)

pub returns-clause-few : goal.returns-clause-few
returns-clause-few c = short_few (machine_of c.step.new.self)

pub returns-clause-counted : goal.returns-clause-counted
returns-clause-counted c =
    let kept : IsKept (machine_of c.step.new.self)
    = steps_keep (machine_of c.self.inside.state) c.args.step c.step.result (machine_of c.step.new.self) c.step.ensures
    c.self.invariant in
    kept.counted

pub returns-clause-moves : goal.returns-clause-moves
returns-clause-moves c = moves_once (machine_of c.step.new.self)
    (steps_keep (machine_of c.self.inside.state) c.args.step c.step.result (machine_of c.step.new.self) c.step.ensures c.self.invariant)

pub returns-clause-tells : goal.returns-clause-tells
returns-clause-tells c = subst (λ (m : AtomicState). TellsStep m c.args.step c.step.result (machine_of c.step.new.self)) c.self.view_is
    (steps_tell (machine_of c.self.inside.state) c.args.step c.step.result (machine_of c.step.new.self) c.step.ensures)
