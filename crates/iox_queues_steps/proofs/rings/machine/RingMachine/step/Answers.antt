use Rattle.std.proofs.Common.{◌<◌, ◌^◌, sym, subst}
use Rattle.iox_queues_steps.specs.RingMachine.{RingState, IsKept, Tells}
use Rattle.iox_queues_steps.specs.Machine.{machine_of}
use Rattle.iox_queues_steps.proofs.Runs.{steps_keep, steps_tell}
use Rattle.iox_queues_steps.proofs.rings.machine.RingMachine.step.Goals as goal

pub invariant_of-self : goal.invariant_of-self
invariant_of-self c =
    steps_keep (machine_of c.self.inside.state) c.args.step c.step.result (machine_of c.step.new.self) c.step.ensures
    (subst (λ (m : RingState). m.log.moments < 2 ^ 63) (sym c.self.view_is) c.requires) c.self.invariant

pub returns-clause-tells : goal.returns-clause-tells
returns-clause-tells c =
    subst (λ (m : RingState). Tells m c.args.step c.step.result (machine_of c.step.new.self)) c.self.view_is
    (steps_tell (machine_of c.self.inside.state) c.args.step c.step.result (machine_of c.step.new.self) c.step.ensures)

pub returns-clause-order : goal.returns-clause-order
returns-clause-order c =
    let kept : IsKept (machine_of c.step.new.self)
    = steps_keep (machine_of c.self.inside.state) c.args.step c.step.result (machine_of c.step.new.self) c.step.ensures
    (subst (λ (m : RingState). m.log.moments < 2 ^ 63) (sym c.self.view_is) c.requires) c.self.invariant in kept.order

pub returns-clause-told : goal.returns-clause-told
returns-clause-told c =
    let kept : IsKept (machine_of c.step.new.self)
    = steps_keep (machine_of c.self.inside.state) c.args.step c.step.result (machine_of c.step.new.self) c.step.ensures
    (subst (λ (m : RingState). m.log.moments < 2 ^ 63) (sym c.self.view_is) c.requires) c.self.invariant in kept.told
