use Rattle.std.proofs.Common.{arith, refl, sym, ◌∙◌, ◌≡◌, ◌∷◌, Some}
use borrow.Author.Rules.{of_calls}
use Rattle.iox_container.specs.declared.callback_progression.CallbackProgression.TheVariants.{Continue, Stop}
use Rattle.iox_container.specs.Container.{told}
use Rattle.iox_container.proofs.Recovering.{asked-first}
use Rattle.iox_container.proofs.container.call_until_stop.Goals as goal

pub loop-split-preserved : goal.loop-split-preserved
loop-split-preserved g c =
    let is : told c.args.id c.loop-split.at c.in-Some.split.0.now ≡ Some c.in-Some-told.found = sym c.told.ensures ∙ c.in-Some-told.is in
    let split : c.loop-split.rest.now ≡ c.in-Some.split.0.now ∷ c.in-Some.split.1.now = c.in-Some.ensures.cases.0 in (
      search of_calls,
      refl,
      omega (arith, c.loop-split.invariant.2, c.in-Some.ensures.cases.1),
      λ last rest.
          c.loop-split.invariant.3 last
          (rw (asked-first (told c.args.id) c.loop-split.at c.loop-split.rest.now c.in-Some.split.0.now c.in-Some.split.1.now
          c.in-Some-told.found split is)
          (Continue, c.callback.new.self, c.in-Continue.ensures, rest)),
    )

pub returns-in-Stop-clause-called : goal.returns-in-Stop-clause-called
returns-in-Stop-clause-called g c =
    let is : told c.args.id c.loop-split.at c.in-Some.split.0.now ≡ Some c.in-Some-told.found = sym c.told.ensures ∙ c.in-Some-told.is in
    let split : c.loop-split.rest.now ≡ c.in-Some.split.0.now ∷ c.in-Some.split.1.now = c.in-Some.ensures.cases.0 in
    c.loop-split.invariant.3 c.callback.new.self
    (rw (asked-first (told c.args.id) c.loop-split.at c.loop-split.rest.now c.in-Some.split.0.now c.in-Some.split.1.now
    c.in-Some-told.found split is)
    (Stop, c.callback.new.self, c.in-Stop.ensures, refl))
