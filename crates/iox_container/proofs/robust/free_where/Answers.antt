use Rattle.std.proofs.Common.{refl, ◌∙◌}
use borrow.Author.Rules.{of_calls}
use Rattle.std.proofs.lemmas.List.{length-set}
use Rattle.iox_container.proofs.Owned.{owned-emptied}
use Rattle.iox_container.proofs.Recovering.{Leads-rest, Leads-kept, Leads-freed}
use Rattle.iox_container.proofs.robust.free_where.Goals as goal

pub loop-index-preserved-then-decide : goal.loop-index-preserved-then-decide
loop-index-preserved-then-decide g c = (
  search of_calls,
  refl,
  rw c.empty.ensures (length-set _ _ _ ∙ c.loop-index.invariant.2),
  rw c.empty.ensures (owned-emptied (λ owner. owner) c.loop-index.cells c.args.owners.now c.in-Some.index c.loop-index.invariant.3),
  rw c.empty.ensures
      (Leads-freed _ _ _ _ _ _ _ _ _ c.in-Some.index c.in-Some.index _ c.loop-index.invariant.4 c.in-Some.ensures.some.rest refl
      (rw c.if-decide.true at c.decide.ensures)),
)

pub loop-index-preserved : goal.loop-index-preserved
loop-index-preserved g c = (
  search of_calls,
  refl,
  c.loop-index.invariant.2,
  c.loop-index.invariant.3,
  Leads-kept _ _ _ _ _ _ _ _ _ c.in-Some.index c.in-Some.index _ c.loop-index.invariant.4 c.in-Some.ensures.some.rest
      (rw c.if-decide.false at c.decide.ensures),
)

pub returns-clause-freed : goal.returns-clause-freed
returns-clause-freed g c = Leads-rest _ _ _ _ _ _ _ _ _ c.loop-index.invariant.4 c.in_default.ensures.none
