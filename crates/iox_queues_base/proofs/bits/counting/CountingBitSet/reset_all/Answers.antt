use Rattle.iox_queues_base.proofs.Told.{ListsCounts-counted}
use Rattle.iox_queues_base.proofs.bits.counting.CountingBitSet.reset_all.Goals as goal

pub returns-clause-called : goal.returns-clause-called
returns-clause-called g c =
    rw (← c.self.view_is, ← c.as_slice.ensures.value) c.call_counted.ensures.called

pub returns-clause-each_once : goal.returns-clause-each_once
returns-clause-each_once g c = ListsCounts-counted c.args.self.now
