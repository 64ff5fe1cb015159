use Rattle.std.proofs.Common.{arith}
use Rattle.iox_queues.proofs.Accesses.{kept, lost, removed}
use Rattle.iox_queues.proofs.shared.calls.push_overflowing.Goals as goal

pub returns-then-saturating_sub-limit : goal.returns-then-saturating_sub-limit
returns-then-saturating_sub-limit g c =
    kept g.M.Memory.answers _ _ _ _ _ _ _ _ _ _ _ _ c.apply-write.ensures c.apply-read.ensures c.apply.ensures
    c.saturating_add-next.ensures c.apply-2.ensures (omega (arith, c.if-saturating_sub-limit.true, c.saturating_sub.ensures))

pub returns-then-found-read : goal.returns-then-found-read
returns-then-found-read g c =
    removed g.M.Memory.answers _ _ _ _ _ _ _ _ _ _ _ _ c.apply-write.ensures c.apply-read.ensures c.apply.ensures
    c.saturating_add-next.ensures c.apply-2.ensures (omega (arith, c.if-saturating_sub-limit.false, c.saturating_sub.ensures)) _ _ _ _ _
    c.apply-oldest.ensures c.saturating_add.ensures c.apply-found.ensures c.if-found-read.true

pub returns : goal.returns
returns g c =
    lost g.M.Memory.answers _ _ _ _ _ _ _ _ _ _ _ _ c.apply-write.ensures c.apply-read.ensures c.apply.ensures
    c.saturating_add-next.ensures c.apply-2.ensures (omega (arith, c.if-saturating_sub-limit.false, c.saturating_sub.ensures)) _ _ _ _ _
    c.apply-oldest.ensures c.saturating_add.ensures c.apply-found.ensures c.if-found-read.false
