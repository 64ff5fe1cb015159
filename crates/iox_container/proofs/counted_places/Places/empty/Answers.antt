use Rattle.std.proofs.Common.{arith, sym, ap, ◌∙◌, None}
use Rattle.std.proofs.lemmas.List.{set_past}
use Rattle.iox_container.specs.CountedPlaces.{padded}
use Rattle.iox_container.proofs.Padded.{emptied-padded}
use Rattle.iox_container.proofs.counted_places.Places.empty.Goals as goal

pub returns-then-index-len : goal.returns-then-index-len
returns-then-index-len g c =
    let past = set_past c.self.inside.cells.items c.args.index None (omega (arith, c.self.inside.cells.ok.0)) in
    rw (← c.self.view_is) (sym (emptied-padded c.self.inside.count c.self.inside.cells.items c.args.index ∙ ap
    (λ cells. padded c.self.inside.count cells) past))

pub returns : goal.returns
returns g c = rw (← c.self.view_is) (sym (emptied-padded c.self.inside.count c.self.inside.cells.items c.args.index))
