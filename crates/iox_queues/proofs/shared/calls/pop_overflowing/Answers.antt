use Rattle.iox_queues.proofs.Accesses.{emptied, retried, took}
use Rattle.iox_queues.proofs.shared.calls.pop_overflowing.Goals as goal

pub returns-then-write-read : goal.returns-then-write-read
returns-then-write-read g c =
    emptied g.M.Memory.answers _ _ _ _ _ c.apply-read.ensures c.apply-write.ensures c.if-write-read.true

pub returns-then-found-read : goal.returns-then-found-read
returns-then-found-read g c =
    took g.M.Memory.answers _ _ _ _ _ c.apply-read.ensures c.apply-write.ensures c.if-write-read.false _ _ _ _ _ c.apply-value.ensures
    c.saturating_add.ensures c.apply-found.ensures c.if-found-read.true

pub returns : goal.returns
returns g c =
    let later = c.later_turns.ensures in
    retried g.M.Memory.answers _ _ _ _ _ c.apply-read.ensures c.apply-write.ensures c.if-write-read.false _ _ _ _ _ c.apply-value.ensures
    c.saturating_add.ensures c.apply-found.ensures c.if-found-read.false later.0 later.1 _ _ later.2 later.3 later.4
