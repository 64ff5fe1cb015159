use Rattle.std.proofs.Common.{rules}
use Rattle.iox_domain_ports.proofs.RowsIn.{place_in_values, write_rest}
use Rattle.iox_domain_ports.proofs.messages.rows.Rows.write.Goals as goal

pub overflow_mul-at : goal.overflow_mul-at
overflow_mul-at g c =
    let inside = place_in_values c.args.self.now c.self.inside.room c.self.inside.lengths.items c.self.inside.values.items c.args.row
    c.args.place c.self.view_is c.self.invariant.0 c.self.invariant.1 c.requires in
    search (rules, inside)

pub overflow_add-at : goal.overflow_add-at
overflow_add-at g c =
    let inside = place_in_values c.args.self.now c.self.inside.room c.self.inside.lengths.items c.self.inside.values.items c.args.row
    c.args.place c.self.view_is c.self.invariant.0 c.self.invariant.1 c.requires in
    search (rules, inside)

pub index_mut-requires : goal.index_mut-requires
index_mut-requires g c =
    let inside = place_in_values c.args.self.now c.self.inside.room c.self.inside.lengths.items c.self.inside.values.items c.args.row
    c.args.place c.self.view_is c.self.invariant.0 c.self.invariant.1 c.requires in
    search (rules, inside)

pub returns : goal.returns
returns g c = write_rest c.args.self.now c.self.inside.room c.self.inside.lengths.items c.self.inside.values.items c.args.row
    c.args.place c.args.value c.self.view_is c.self.invariant.0 c.self.invariant.1 c.requires
