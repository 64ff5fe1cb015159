use Rattle.std.proofs.Common.{subst, arith}
use Rattle.iox_robust_steps.specs.ContainerMachine.{ContainerParts, HasFewMoves, MemberTellsStep, MindsCopies}
use Rattle.iox_robust_steps.specs.ContainerRecovering.{TakesOutOnlyItsOwn}
use Rattle.iox_robust_steps.specs.ContainerKept.{MembersAreKept}
use Rattle.iox_robust_steps.specs.ContainerView.{parts_of}
use Rattle.iox_robust_steps.proofs.ContainerCalls.{member_steps_tell}
use Rattle.iox_robust_steps.proofs.ContainerCopies.{member_steps_mind}
use Rattle.iox_robust_steps.proofs.ContainerKeeps.{member_steps_keep}
use Rattle.iox_robust_steps.proofs.ContainerOrderly.{members_orderly}
use Rattle.iox_robust_steps.proofs.ContainerRecovers.{member_steps_recover}
use Rattle.iox_robust_steps.proofs.container.ContainerMachine.step.Goals as goal

pub step-requires : goal.step-requires
step-requires c = omega (arith, c.self.invariant.size)

pub invariant_of-self : goal.invariant_of-self
invariant_of-self c = member_steps_keep (parts_of c.self.inside.state) c.args.step c.step.result (parts_of c.step.new.self)
    c.step.ensures c.self.invariant

pub returns-clause-orderly : goal.returns-clause-orderly
returns-clause-orderly c = members_orderly (parts_of c.step.new.self)
    (member_steps_keep (parts_of c.self.inside.state) c.args.step c.step.result (parts_of c.step.new.self) c.step.ensures c.self.invariant)

pub returns-clause-recorded : goal.returns-clause-recorded
returns-clause-recorded c =
    let kept : MembersAreKept (parts_of c.step.new.self)
    = member_steps_keep (parts_of c.self.inside.state) c.args.step c.step.result (parts_of c.step.new.self) c.step.ensures
    c.self.invariant in kept.recorded

pub returns-clause-tells : goal.returns-clause-tells
returns-clause-tells c = subst (λ (m : ContainerParts). MemberTellsStep m c.args.step c.step.result (parts_of c.step.new.self))
    c.self.view_is
    (member_steps_tell (parts_of c.self.inside.state) c.args.step c.step.result (parts_of c.step.new.self) c.step.ensures)

pub returns-clause-copies : goal.returns-clause-copies
returns-clause-copies c = subst (λ (m : ContainerParts). MindsCopies m c.args.step c.step.result (parts_of c.step.new.self)) c.self.view_is
    (member_steps_mind (parts_of c.self.inside.state) c.args.step c.step.result (parts_of c.step.new.self) c.step.ensures)

pub returns-clause-recovers : goal.returns-clause-recovers
returns-clause-recovers c = subst
    (λ (m : ContainerParts). HasFewMoves (parts_of c.step.new.self) → TakesOutOnlyItsOwn m c.args.step (parts_of c.step.new.self))
    c.self.view_is
    (member_steps_recover (parts_of c.self.inside.state) c.args.step c.step.result (parts_of c.step.new.self) c.step.ensures
    c.self.invariant)

pub returns-clause-counted : goal.returns-clause-counted
returns-clause-counted c =
    let kept : MembersAreKept (parts_of c.step.new.self)
    = member_steps_keep (parts_of c.self.inside.state) c.args.step c.step.result (parts_of c.step.new.self) c.step.ensures
    c.self.invariant in kept.counted
