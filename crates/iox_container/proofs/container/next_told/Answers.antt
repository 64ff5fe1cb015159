use Rattle.std.proofs.Common.{ℕ, ◌≡◌, ◌≢◌, nat_eq, Option, Some, None, false, arith, refl, sym, ap, subst, ◌∙◌}
use Rattle.std.proofs.lemmas.Bool.Decides.{nat_tests}
use Rattle.iox_container.specs.declared.container.Member.{Member}
use Rattle.iox_container.specs.Container.{told_of}
use Rattle.iox_container.specs.Owners.{IsToldNext}
use Rattle.iox_container.proofs.Owned.{told-next, passed-next, none-left}
use Rattle.iox_container.proofs.Told.{told_of-index}
use Rattle.iox_container.proofs.container.next_told.Goals as goal

of-another : {T : Type 0} (owner id index : ℕ) (member : Member T) → member.owner ≢ owner → told_of owner id index (Some member) ≡ None
of-another owner id index member other =
    let not_its : nat_eq member.owner owner ≡ false = grind (arith, nat_tests) in rw not_its refl

pub returns-in-Some-told_of-clause-some : goal.returns-in-Some-told_of-clause-some
returns-in-Some-told_of-clause-some g c =
    let is : told_of c.args.owner c.args.id c.in-Some.index c.get.result ≡ Some c.in-Some-told_of.found
    = sym c.told_of.ensures ∙ c.in-Some-told_of.is in
    subst (λ (place : ℕ). IsToldNext (told_of c.args.owner c.args.id) c.args.members.now c.args.from place c.in-Some-told_of.found)
    (sym (told_of-index c.args.owner c.args.id c.in-Some.index c.get.result c.in-Some-told_of.found is))
    (told-next (λ member. member.owner) (told_of c.args.owner c.args.id) c.args.owner (λ at. refl) (of-another c.args.owner c.args.id)
    c.args.members.now c.args.owners.now c.requires
    c.args.from c.loop-index.at c.in-Some.index c.in-Some-told_of.found c.loop-index.invariant.2 c.loop-index.invariant.3
    c.in-Some.ensures.some
    (ap (λ (m : Option (Member g.row.T.Denot)). told_of c.args.owner c.args.id c.in-Some.index m) (sym c.get.ensures) ∙ is))

pub loop-index-preserved : goal.loop-index-preserved
loop-index-preserved g c = (
  refl,
  refl,
  omega (arith, c.loop-index.invariant.2, c.in-Some.ensures.some.from_there),
  passed-next (λ member. member.owner) (told_of c.args.owner c.args.id) c.args.owner (λ at. refl) (of-another c.args.owner c.args.id)
      c.args.members.now c.args.owners.now c.requires
      c.args.from c.loop-index.at c.in-Some.index c.loop-index.invariant.3 c.in-Some.ensures.some
      (ap (λ (m : Option (Member g.row.T.Denot)). told_of c.args.owner c.args.id c.in-Some.index m) (sym c.get.ensures) ∙ sym
      c.told_of.ensures ∙ c.in_default-told_of.is),
)

pub returns-clause-none : goal.returns-clause-none
returns-clause-none g c =
    c.loop-index.invariant.3
    ∙ none-left (λ member. member.owner) (told_of c.args.owner c.args.id) c.args.owner (λ at. refl) (of-another c.args.owner c.args.id)
    c.args.members.now c.args.owners.now c.requires
    c.loop-index.at c.in_default.ensures.none
