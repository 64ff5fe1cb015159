use Rattle.std.proofs.Common.{length}
use Rattle.iox_lanes.proofs.returning.returned.Goals as goal

pub returns-clause-left : goal.returns-clause-left
returns-clause-left g c = λ rest joined.
    let all = rw c.into_machine-lanes.ensures at (rw c.deref-2.ensures.value at
    (rw c.deref-3.ensures.value at (rw c.deref.ensures.value at (rw c.count-readers.ensures at c.restore_publishers.ensures)))) in
    all rest (length c.args.opened.one.items) joined
