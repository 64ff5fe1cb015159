use Rattle.std.proofs.Common.{◌∙◌, sym}
use Rattle.iox_container.proofs.Owned.{lowest-next_had}
use Rattle.iox_container.proofs.robust.RobustUniqueIndexSet.acquire.Goals as goal

pub set-requires-clause-next : goal.set-requires-clause-next
set-requires-clause-next c =
    (lowest-next_had (λ owner. owner) c.self.inside.cells c.self.inside.owners c.in-Some.index c.self.invariant.1
    (sym c.fill.ensures.answer ∙ c.in-Some.is)).1
