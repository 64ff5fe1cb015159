use Rattle.std.proofs.Common.{◌≡◌, Some, None, rules, refl, sym, ◌∙◌}
use Rattle.std.proofs.lemmas.List.{get_or_read}
use Rattle.iox_container.specs.SlotTable.{value_at}
use Rattle.iox_container.proofs.Padding.{filled-padded, held-has_cell, value_at-padded}
use Rattle.iox_container.proofs.places.Places.value_mut.Goals as goal

pub returns : goal.returns
returns g c =
    let p = c.self.inside in
    let low = held-has_cell p.count p.cells.items c.args.index (rw (← c.self.view_is) at c.requires) in
    let read = get_or_read p.cells.items _ _ low c.index_mut.ensures.value None in
    let some : c.index_mut.result.now ≡ Some c.unwrap.result.now = search rules in
    let here : value_at p.cells.items c.args.index ≡ Some c.unwrap.result.now = sym read ∙ some in (
      (refl, λ w. rw (← c.self.view_is) (sym (filled-padded p.count p.cells.items c.args.index w low))),
      record { writes_back = tt; value = rw (← c.self.view_is) (value_at-padded p.count p.cells.items c.args.index ∙ here) },
    )
