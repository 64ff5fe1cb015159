use Rattle.std.proofs.Common.{arith, sym, ap, ◌∙◌, None}
use Rattle.std.proofs.lemmas.List.{set_past}
use Rattle.iox_container.specs.Places.{padded}
use Rattle.iox_container.proofs.Padding.{emptied-padded}
use Rattle.iox_container.proofs.places.Places.take.Goals as goal

pub returns-then-index-len-clause-after : goal.returns-then-index-len-clause-after
returns-then-index-len-clause-after g c =
    let p = c.self.inside in
    rw (← c.self.view_is, c.take.ensures.after) (sym (emptied-padded p.count p.cells.items c.args.index))

pub returns-else-index-len-clause-after : goal.returns-else-index-len-clause-after
returns-else-index-len-clause-after g c =
    let p = c.self.inside in
    let past = set_past p.cells.items c.args.index None (omega (arith, p.cells.ok.0)) in
    rw (← c.self.view_is) (sym (emptied-padded p.count p.cells.items c.args.index ∙ ap (λ cells. padded p.count cells) past))
