use Rattle.std.proofs.Common.{refl, ◌∙◌}
use borrow.Author.Rules.{of_calls}
use Rattle.std.proofs.lemmas.List.{length-set}
use Rattle.iox_container.proofs.Owned.{owned-emptied}
use Rattle.iox_container.proofs.Recovering.{Leads-rest, Leads-kept, Leads-freed}
use Rattle.iox_container.proofs.container.remove_where.Goals as goal

pub loop-found-preserved-then-decide : goal.loop-found-preserved-then-decide
loop-found-preserved-then-decide g c = (
  search of_calls,
  refl,
  refl,
  rw c.empty.ensures (length-set _ _ _ ∙ c.loop-found.invariant.3),
  rw c.empty.ensures (owned-emptied (λ member. member.owner) c.loop-found.members c.args.owners.now c.in-Some.found.0.index
      c.loop-found.invariant.4),
  rw c.empty.ensures
      (Leads-freed _ _ _ _ _ _ _ _ _ c.in-Some.found.0.index c.in-Some.found _ c.loop-found.invariant.5 c.in-Some.ensures.some.rest refl
      (rw c.if-decide.true at c.decide.ensures)),
)

pub loop-found-preserved : goal.loop-found-preserved
loop-found-preserved g c = (
  search of_calls,
  refl,
  refl,
  c.loop-found.invariant.3,
  c.loop-found.invariant.4,
  Leads-kept _ _ _ _ _ _ _ _ _ c.in-Some.found.0.index c.in-Some.found _ c.loop-found.invariant.5 c.in-Some.ensures.some.rest
      (rw c.if-decide.false at c.decide.ensures),
)

pub returns-clause-removed : goal.returns-clause-removed
returns-clause-removed g c = Leads-rest _ _ _ _ _ _ _ _ _ c.loop-found.invariant.5 c.in_default.ensures.none
