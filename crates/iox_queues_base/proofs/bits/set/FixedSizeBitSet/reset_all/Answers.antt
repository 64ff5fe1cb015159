use Rattle.iox_queues_base.proofs.bits.set.FixedSizeBitSet.reset_all.Goals as goal

pub returns-clause-called : goal.returns-clause-called
returns-clause-called g c = rw (← c.self.view_is) c.reset_all.ensures.called
