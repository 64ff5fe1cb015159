use Rattle.iox_queues_base.proofs.Told.{ListsMembers-members}
use Rattle.iox_queues_base.proofs.bits.set.BitSet.reset_all.Goals as goal

pub returns-clause-called : goal.returns-clause-called
returns-clause-called g c =
    rw (← c.self.view_is, ← c.as_slice.ensures.value) c.call_members.ensures.called

pub returns-clause-each_once : goal.returns-clause-each_once
returns-clause-each_once g c = ListsMembers-members c.args.self.now.bits
