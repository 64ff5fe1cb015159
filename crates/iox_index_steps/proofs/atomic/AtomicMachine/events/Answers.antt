use Rattle.std.proofs.Common.{subst}
use Rattle.iox_index_steps.specs.AtomicMachine.{AtomicState, HasFewStores, IsRecorded, IsTold, MovesOnce, StepsAreOfCalls}
use Rattle.iox_index_steps.specs.AtomicView.{machine_of}
use Rattle.iox_index_steps.proofs.AtomicRuns.{all_told, moves_once}
use Rattle.iox_index_steps.proofs.atomic.AtomicMachine.events.Goals as goal

pub returns-clause-told : goal.returns-clause-told
returns-clause-told c = subst (λ (m : AtomicState). HasFewStores m → IsTold m) c.self.view_is
    (all_told (machine_of c.self.inside.state) c.self.invariant)

pub returns-clause-recorded : goal.returns-clause-recorded
returns-clause-recorded c = subst IsRecorded c.self.view_is c.self.invariant.recorded

pub returns-clause-counted : goal.returns-clause-counted
returns-clause-counted c = subst StepsAreOfCalls c.self.view_is c.self.invariant.counted

pub returns-clause-moves : goal.returns-clause-moves
returns-clause-moves c = subst MovesOnce c.self.view_is (moves_once (machine_of c.self.inside.state) c.self.invariant)
