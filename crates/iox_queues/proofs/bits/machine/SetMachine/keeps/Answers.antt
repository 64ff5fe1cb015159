use Rattle.std.proofs.Common.{subst}
use Rattle.iox_queues.specs.State.{machine_of}
use Rattle.iox_queues.specs.Machine.{IsTold}
use Rattle.iox_queues.specs.Moments.{CallsHaveMoments}
use Rattle.iox_queues.proofs.Moments.{have_moments}
use Rattle.iox_queues.proofs.Telling.{all_told}
use Rattle.iox_queues.proofs.bits.machine.SetMachine.keeps.Goals as goal

pub returns-clause-moments : goal.returns-clause-moments
returns-clause-moments c = subst CallsHaveMoments c.self.view_is (have_moments (machine_of c.self.inside.state) c.self.invariant.0)

pub returns-clause-told : goal.returns-clause-told
returns-clause-told c = subst IsTold c.self.view_is (all_told (machine_of c.self.inside.state) c.self.invariant.0)
