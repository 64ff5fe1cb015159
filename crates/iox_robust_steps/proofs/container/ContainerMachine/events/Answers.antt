use Rattle.std.proofs.Common.{subst}
use Rattle.iox_robust_steps.specs.ContainerMachine.{ContainerParts, HasFewMoves, MembersAreRecorded}
use Rattle.iox_robust_steps.specs.ContainerKept.{MembersAreOrderly}
use Rattle.iox_robust_steps.specs.ContainerStays.{MembersAreOfCalls}
use Rattle.iox_robust_steps.specs.ContainerView.{parts_of}
use Rattle.iox_robust_steps.proofs.ContainerOrderly.{members_orderly}
use Rattle.iox_robust_steps.proofs.container.ContainerMachine.events.Goals as goal

pub returns-clause-orderly : goal.returns-clause-orderly
returns-clause-orderly c = subst (λ (m : ContainerParts). HasFewMoves m → MembersAreOrderly m) c.self.view_is
    (members_orderly (parts_of c.self.inside.state) c.self.invariant)

pub returns-clause-recorded : goal.returns-clause-recorded
returns-clause-recorded c = subst MembersAreRecorded c.self.view_is c.self.invariant.recorded

pub returns-clause-counted : goal.returns-clause-counted
returns-clause-counted c = subst MembersAreOfCalls c.self.view_is c.self.invariant.counted
