use Rattle.std.proofs.Common.{rules, arith, ◌≤◌, ap}
use Rattle.iox_domain_ports.proofs.RowsIn.{there_is, set_length_rest, set_length_count}
use Rattle.iox_domain_ports.proofs.messages.rows.Rows.set_length.Goals as goal

pub index_mut-requires : goal.index_mut-requires
index_mut-requires g c =
    let below = there_is c.args.self.now c.self.inside.room c.self.inside.lengths.items c.self.inside.values.items c.args.row
    c.self.view_is c.requires.row in
    search (rules, below)

pub returns-clause-length : goal.returns-clause-length
returns-clause-length g c =
    let below = there_is c.args.self.now c.self.inside.room c.self.inside.lengths.items c.self.inside.values.items c.args.row
    c.self.view_is c.requires.row in
    let room : c.args.count ≤ c.self.inside.room = omega (arith, c.requires.room, ap (λ s. s.room) c.self.view_is) in
    set_length_count c.self.inside.room c.self.inside.lengths.items c.self.inside.values.items c.args.row c.args.count below room
    c.self.invariant.0

pub returns-clause-rest : goal.returns-clause-rest
returns-clause-rest g c =
    let below = there_is c.args.self.now c.self.inside.room c.self.inside.lengths.items c.self.inside.values.items c.args.row
    c.self.view_is c.requires.row in
    set_length_rest c.args.self.now c.self.inside.room c.self.inside.lengths.items c.self.inside.values.items c.args.row c.args.count
    c.self.view_is below
