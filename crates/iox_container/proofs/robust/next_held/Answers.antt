use Rattle.std.proofs.Common.{ℕ, ◌≡◌, ◌≢◌, ◌==◌, Option, Some, None, true, false, arith, refl, sym, ap, ◌∙◌, get_or}
use Rattle.std.proofs.lemmas.Bool.Decides.{nat_tests}
use Rattle.iox_container.specs.Robust.{is_of, index_of}
use Rattle.iox_container.proofs.Owned.{told-next, passed-next, none-left}
use Rattle.iox_container.proofs.robust.next_held.Goals as goal

own : (owner index : ℕ) (holder : Option ℕ) → is_of owner holder ≡ true → index_of owner index holder ≡ Some index
own owner index holder h = rw h refl

another : (owner index : ℕ) (holder : Option ℕ) → is_of owner holder ≡ false → index_of owner index holder ≡ None
another owner index holder h = rw h refl

of-another : (owner index holder : ℕ) → holder ≢ owner → index_of owner index (Some holder) ≡ None
of-another owner index holder other =
    let not_its : (holder == owner) ≡ false = grind (arith, nat_tests) in another owner index (Some holder) not_its

pub returns-then-is_of-clause-some : goal.returns-then-is_of-clause-some
returns-then-is_of-clause-some c =
    told-next (λ owner. owner) (index_of c.args.owner) c.args.owner (λ at. refl) (of-another c.args.owner) c.args.cells.now
    c.args.owners.now c.requires
    c.args.from c.loop-index.at c.in-Some.index c.in-Some.index c.loop-index.invariant.1 c.loop-index.invariant.2 c.in-Some.ensures.some
    (own c.args.owner c.in-Some.index (get_or c.args.cells.now c.in-Some.index None)
    (ap (λ (h : Option ℕ). is_of c.args.owner h) (sym c.get.ensures) ∙ sym c.is_of.ensures ∙ c.if-is_of.true))

pub loop-index-preserved : goal.loop-index-preserved
loop-index-preserved c = (
  refl,
  omega (arith, c.loop-index.invariant.1, c.in-Some.ensures.some.from_there),
  passed-next (λ owner. owner) (index_of c.args.owner) c.args.owner (λ at. refl) (of-another c.args.owner) c.args.cells.now
      c.args.owners.now c.requires
      c.args.from c.loop-index.at c.in-Some.index c.loop-index.invariant.2 c.in-Some.ensures.some
      (another c.args.owner c.in-Some.index (get_or c.args.cells.now c.in-Some.index None)
      (ap (λ (h : Option ℕ). is_of c.args.owner h) (sym c.get.ensures) ∙ sym c.is_of.ensures ∙ c.if-is_of.false)),
)

pub returns-clause-none : goal.returns-clause-none
returns-clause-none c =
    c.loop-index.invariant.2
    ∙ none-left (λ owner. owner) (index_of c.args.owner) c.args.owner (λ at. refl) (of-another c.args.owner) c.args.cells.now
    c.args.owners.now c.requires
    c.loop-index.at c.in_default.ensures.none
