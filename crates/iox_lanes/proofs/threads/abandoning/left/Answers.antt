use Rattle.std.proofs.Common.{ℕ, List, subst}
use Rattle.iox_lanes.specs.Emptied.{IsEnded}
use Rattle.iox_lanes.proofs.Abandoned.{abandoned}
use Rattle.iox_lanes.proofs.threads.abandoning.left.Goals as goal

pub returns : goal.returns
returns g c =
    let parts = c.into_fields-board.ensures in
    abandoned c.args.board c.args.publishers.now c.args.subscribers.now c.into_fields-board.result.0 c.into_fields-board.result.1
    c.emptied-domain.result c.into_fields-board.result.2.items c.into_fields-board.result.3.items c.missing_publishers.result.items
    c.missing_subscribers.result.items parts.0 parts.1 parts.2 parts.3
    (subst (λ (n : List ℕ). IsEnded n c.args.publishers.now c.into_fields-board.result.1 c.emptied-domain.result) c.deref.ensures.value
    c.emptied-domain.ensures)
    c.missing_publishers.ensures c.missing_subscribers.ensures
