use Rattle.std.proofs.Common.{◌∙◌, sym}
use Rattle.iox_container.proofs.Owned.{lowest-next_had}
use Rattle.iox_container.proofs.container.Container.add.Goals as goal

pub set-requires-clause-next : goal.set-requires-clause-next
set-requires-clause-next g c =
    (lowest-next_had (λ member. member.owner) c.self.inside.members c.self.inside.owners c.in-Some.index c.self.invariant.1
    (sym c.fill.ensures.answer ∙ c.in-Some.is)).1
