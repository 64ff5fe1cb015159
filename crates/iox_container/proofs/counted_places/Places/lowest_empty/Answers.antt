use Rattle.std.proofs.Common.{arith, sym, ap, ◌∙◌, ◌≡◌, length, Some, None}
use Rattle.iox_container.specs.CountedPlaces.{lowest_empty}
use Rattle.iox_container.proofs.Padded.{lowest-within, lowest-next}
use Rattle.iox_container.proofs.counted_places.Places.lowest_empty.Goals as goal

pub returns-in-Some : goal.returns-in-Some
returns-in-Some g c =
    let is : lowest_empty c.self.inside.cells.items ≡ Some c.in-Some.index =
    ap (λ cells. lowest_empty cells) (sym c.as_slice.ensures.value) ∙ sym c.lowest_empty.ensures ∙ c.in-Some.is in
    let within = lowest-within c.self.inside.count c.self.inside.cells.items c.in-Some.index c.self.invariant.0 is in
    rw (← c.self.view_is) (sym within.1)

pub returns : goal.returns
returns g c =
    let none : lowest_empty c.self.inside.cells.items ≡ None =
    ap (λ cells. lowest_empty cells) (sym c.as_slice.ensures.value) ∙ sym c.lowest_empty.ensures ∙ c.in_default.is in
    let at : c.len-next.result ≡ length c.self.inside.cells.items = omega (arith, c.len-next.ensures, c.self.inside.cells.ok.0) in
    rw (← c.self.view_is, at) (sym (lowest-next c.self.inside.count c.self.inside.cells.items none
    (omega (arith, c.self.invariant.0, c.if-next-self.false, at))))
