use Rattle.std.proofs.Common.{arith, sym, ap, ◌∙◌, ◌≡◌, length, Some, None}
use Rattle.std.proofs.lemmas.List.{length-set}
use Rattle.std.proofs.lemmas.Grind.{common_steps}
use Rattle.iox_container.specs.CountedPlaces.{lowest_empty}
use Rattle.iox_container.proofs.Locked.{count-lowest}
use Rattle.iox_container.proofs.Padded.{lowest-within, lowest-next, filled-padded, next-padded}
use Rattle.iox_container.proofs.counted_places.Places.fill.Goals as goal

pub invariant_of-self : goal.invariant_of-self
invariant_of-self g c =
    let is : lowest_empty c.self.inside.cells.items ≡ Some c.in-Some.index =
    ap (λ cells. lowest_empty cells) (sym c.as_slice.ensures.value) ∙ sym c.lowest_empty.ensures ∙ c.in-Some.is in
    let more = count-lowest c.self.inside.cells.items c.in-Some.index c.args.content is in
    let long = length-set c.self.inside.cells.items c.in-Some.index (Some c.args.content) in
    (omega (arith, long, c.self.invariant.0), c.self.invariant.1, omega (arith, more.1, c.self.invariant.2))

pub returns-in-Some-clause-answer : goal.returns-in-Some-clause-answer
returns-in-Some-clause-answer g c =
    let is : lowest_empty c.self.inside.cells.items ≡ Some c.in-Some.index =
    ap (λ cells. lowest_empty cells) (sym c.as_slice.ensures.value) ∙ sym c.lowest_empty.ensures ∙ c.in-Some.is in
    let within = lowest-within c.self.inside.count c.self.inside.cells.items c.in-Some.index c.self.invariant.0 is in
    rw (← c.self.view_is) (sym within.1)

pub returns-in-Some-clause-some : goal.returns-in-Some-clause-some
returns-in-Some-clause-some g c =
    let is : lowest_empty c.self.inside.cells.items ≡ Some c.in-Some.index =
    ap (λ cells. lowest_empty cells) (sym c.as_slice.ensures.value) ∙ sym c.lowest_empty.ensures ∙ c.in-Some.is in
    let within = lowest-within c.self.inside.count c.self.inside.cells.items c.in-Some.index c.self.invariant.0 is in
    rw (← c.self.view_is) (sym (filled-padded c.self.inside.count c.self.inside.cells.items c.in-Some.index c.args.content within.0))

pub returns-clause-answer : goal.returns-clause-answer
returns-clause-answer g c =
    let none : lowest_empty c.self.inside.cells.items ≡ None =
    ap (λ cells. lowest_empty cells) (sym c.as_slice.ensures.value) ∙ sym c.lowest_empty.ensures ∙ c.in_default.is in
    let at : c.len-index.result ≡ length c.self.inside.cells.items = omega (arith, c.len-index.ensures, c.self.inside.cells.ok.0) in
    rw (← c.self.view_is, at) (sym (lowest-next c.self.inside.count c.self.inside.cells.items none (omega (arith, c.self.invariant.0))))

pub returns-clause-some : goal.returns-clause-some
returns-clause-some g c =
    let at : c.len-index.result ≡ length c.self.inside.cells.items = omega (arith, c.len-index.ensures, c.self.inside.cells.ok.0) in
    rw (← c.self.view_is, at, c.push_reserved.ensures.items)
    (sym (next-padded c.self.inside.count c.self.inside.cells.items c.args.content (omega (arith, c.self.invariant.0))))

pub returns-then-index-self-clause-answer : goal.returns-then-index-self-clause-answer
returns-then-index-self-clause-answer g c = grind (arith, common_steps)

pub returns-then-index-self-clause-none : goal.returns-then-index-self-clause-none
returns-then-index-self-clause-none g c = grind (arith, common_steps)

pub invariant_of-self-2 : goal.invariant_of-self-2
invariant_of-self-2 g c = grind (arith, common_steps)
