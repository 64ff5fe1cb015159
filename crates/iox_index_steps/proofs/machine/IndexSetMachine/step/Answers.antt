use Rattle.std.proofs.Common.{◌∙◌, sym, subst, length}
use Rattle.iox_index_steps.specs.Machine.{HasFewChanges, IndexSetState, StaysLocked, stage_at}
use Rattle.iox_index_steps.specs.Kept.{IsKept}
use Rattle.iox_index_steps.specs.OfCalls.{TellsStep}
use Rattle.iox_index_steps.specs.State.{machine_of}
use Rattle.iox_index_steps.proofs.Brief.{short_few}
use Rattle.iox_index_steps.proofs.Ending.{some_cells}
use Rattle.iox_index_steps.proofs.OfCalls.{steps_tell}
use Rattle.iox_index_steps.proofs.Runs.{orderly, steps_go, steps_keep, steps_length}
use Rattle.iox_index_steps.proofs.machine.IndexSetMachine.step.Goals as goal

pub step-requires-clause-cells : goal.step-requires-clause-cells
step-requires-clause-cells c = λ party saw.
    let m : IndexSetState = machine_of c.self.inside.state in
    some_cells (length m.words.cells) (stage_at m.seats party) (c.self.invariant.0.cells party) saw

pub invariant_of-self : goal.invariant_of-self
invariant_of-self c = (
  (steps_keep (machine_of c.self.inside.state) c.args.step c.step.result (machine_of c.step.new.self) c.step.ensures.steps
      c.self.invariant.0),
  steps_length (machine_of c.self.inside.state) c.args.step c.step.result (machine_of c.step.new.self) c.step.ensures.steps ∙
      c.self.invariant.1 ∙ sym c.step.ensures.capacity,
)

pub returns-clause-orderly : goal.returns-clause-orderly
returns-clause-orderly c =
    orderly (machine_of c.step.new.self)
    (steps_keep (machine_of c.self.inside.state) c.args.step c.step.result (machine_of c.step.new.self) c.step.ensures.steps
    c.self.invariant.0)

pub returns-clause-locked : goal.returns-clause-locked
returns-clause-locked c = λ few.
    let goes : HasFewChanges (machine_of c.self.inside.state) × StaysLocked (machine_of c.self.inside.state) (machine_of c.step.new.self) =
    steps_go (machine_of c.self.inside.state) c.args.step c.step.result (machine_of c.step.new.self) c.step.ensures.steps
    c.self.invariant.0 few in
    subst (λ (m : IndexSetState). StaysLocked m (machine_of c.step.new.self)) c.self.view_is goes.1

pub returns-clause-few : goal.returns-clause-few
returns-clause-few c = λ few.
    let goes : HasFewChanges (machine_of c.self.inside.state) × StaysLocked (machine_of c.self.inside.state) (machine_of c.step.new.self) =
    steps_go (machine_of c.self.inside.state) c.args.step c.step.result (machine_of c.step.new.self) c.step.ensures.steps
    c.self.invariant.0 few in
    subst HasFewChanges c.self.view_is goes.0

pub returns-clause-recorded : goal.returns-clause-recorded
returns-clause-recorded c =
    let kept : IsKept (machine_of c.step.new.self)
    = steps_keep (machine_of c.self.inside.state) c.args.step c.step.result (machine_of c.step.new.self) c.step.ensures.steps
    c.self.invariant.0 in
    kept.recorded

pub returns-clause-short : goal.returns-clause-short
returns-clause-short c = short_few (machine_of c.step.new.self)

pub returns-clause-counted : goal.returns-clause-counted
returns-clause-counted c =
    let kept : IsKept (machine_of c.step.new.self)
    = steps_keep (machine_of c.self.inside.state) c.args.step c.step.result (machine_of c.step.new.self) c.step.ensures.steps
    c.self.invariant.0 in
    kept.counted

pub returns-clause-tells : goal.returns-clause-tells
returns-clause-tells c = subst (λ (m : IndexSetState). TellsStep m c.args.step c.step.result (machine_of c.step.new.self)) c.self.view_is
    (steps_tell (machine_of c.self.inside.state) c.args.step c.step.result (machine_of c.step.new.self) c.step.ensures.steps)
