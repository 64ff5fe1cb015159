use Rattle.std.proofs.Common.{◌∙◌, sym, subst, length, drop}
use Rattle.iox_queues.specs.Machine.{SetState, seat_at, stage_at}
use Rattle.iox_queues.specs.Told.{own}
use Rattle.iox_queues.proofs.Knowing.{some_cells}
use Rattle.iox_queues.specs.Kept.{IsKept}
use Rattle.iox_queues.specs.State.{machine_of}
use Rattle.iox_queues.specs.Asked.{TellsStep}
use Rattle.iox_queues.proofs.Runs.{steps_keep, steps_length}
use Rattle.iox_queues.proofs.Moments.{have_moments}
use Rattle.iox_queues.proofs.Telling.{all_told, steps_tell}
use Rattle.iox_queues.proofs.bits.machine.SetMachine.step.Goals as goal

pub step-requires-clause-cells : goal.step-requires-clause-cells
step-requires-clause-cells c = λ party touches.
    let m : SetState = machine_of c.self.inside.state in
    some_cells m.max (length m.words.cells) (own party (drop (seat_at m.seats party).first m.events)) (stage_at m.seats party)
    (c.self.invariant.0.knows party) touches

pub invariant_of-self : goal.invariant_of-self
invariant_of-self c = (
  (steps_keep (machine_of c.self.inside.state) c.args.step c.step.result (machine_of c.step.new.self) c.step.ensures.steps
      c.self.invariant.0),
  steps_length (machine_of c.self.inside.state) c.args.step c.step.result (machine_of c.step.new.self) c.step.ensures.steps ∙
      c.self.invariant.1 ∙ sym c.step.ensures.capacity,
)

pub returns-clause-balanced : goal.returns-clause-balanced
returns-clause-balanced c =
    let kept : IsKept (machine_of c.step.new.self)
    = steps_keep (machine_of c.self.inside.state) c.args.step c.step.result (machine_of c.step.new.self) c.step.ensures.steps
    c.self.invariant.0 in kept.balanced

pub returns-clause-told : goal.returns-clause-told
returns-clause-told c =
    let kept : IsKept (machine_of c.step.new.self)
    = steps_keep (machine_of c.self.inside.state) c.args.step c.step.result (machine_of c.step.new.self) c.step.ensures.steps
    c.self.invariant.0 in all_told (machine_of c.step.new.self) kept

pub returns-clause-recorded : goal.returns-clause-recorded
returns-clause-recorded c =
    let kept : IsKept (machine_of c.step.new.self)
    = steps_keep (machine_of c.self.inside.state) c.args.step c.step.result (machine_of c.step.new.self) c.step.ensures.steps
    c.self.invariant.0 in kept.recorded

pub returns-clause-counted : goal.returns-clause-counted
returns-clause-counted c =
    let kept : IsKept (machine_of c.step.new.self)
    = steps_keep (machine_of c.self.inside.state) c.args.step c.step.result (machine_of c.step.new.self) c.step.ensures.steps
    c.self.invariant.0 in kept.counted

pub returns-clause-acts : goal.returns-clause-acts
returns-clause-acts c =
    let kept : IsKept (machine_of c.step.new.self)
    = steps_keep (machine_of c.self.inside.state) c.args.step c.step.result (machine_of c.step.new.self) c.step.ensures.steps
    c.self.invariant.0 in kept.acts

pub returns-clause-tells : goal.returns-clause-tells
returns-clause-tells c =
    subst (λ (m : SetState). TellsStep m c.args.step c.step.result (machine_of c.step.new.self)) c.self.view_is
    (steps_tell (machine_of c.self.inside.state) c.args.step c.step.result (machine_of c.step.new.self) c.step.ensures.steps)

pub returns-clause-moments : goal.returns-clause-moments
returns-clause-moments c =
    have_moments (machine_of c.step.new.self)
    (steps_keep (machine_of c.self.inside.state) c.args.step c.step.result (machine_of c.step.new.self) c.step.ensures.steps
    c.self.invariant.0)
