use Rattle.std.proofs.Common.{◌<◌, ◌+◌, ◌-◌, ◌++◌, length, replicate, None, Option, arith, sym}
use Rattle.std.proofs.lemmas.List.{length-append, length-replicate}
use Rattle.iox_container.proofs.Padding.{filled-padded, length-padded, padded-more}
use Rattle.iox_container.proofs.places.Places.put.Goals as goal

pub returns : goal.returns
returns g c =
    let p = c.self.inside in
    let more = c.args.index + 1 - length p.cells.items in
    let cells = p.cells.items ++ replicate more None in
    let within : c.args.index < p.count
    = omega (arith, length-padded p.count p.cells.items c.self.invariant.0, rw (← c.self.view_is) at c.requires) in
    let long = length-append p.cells.items (replicate more None) in
    let added = length-replicate {A = Option g.row.T.Denot} more None in
    let same = padded-more p.count more p.cells.items (omega (arith, c.self.invariant.0)) in
    let low : c.args.index < length cells = omega (arith, long, added) in
    rw (← c.self.view_is, c.make_up_to.ensures.items, sym same) (sym (filled-padded p.count cells c.args.index c.args.value low))
