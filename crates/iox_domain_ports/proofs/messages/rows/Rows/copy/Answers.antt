use Rattle.std.proofs.Common.{rules, arith, ◌∙◌, ◌≤◌, ◌*◌, length, get_or, ap, take, drop, ◌++◌, ◌+◌, refl}
use Rattle.iox_domain_ports.proofs.RowsIn.{row_within, there_is, seen_length, put_is, copy_rest}
use Rattle.iox_domain_ports.proofs.messages.rows.Rows.copy.Goals as goal

pub overflow_mul-start : goal.overflow_mul-start
overflow_mul-start g c =
    let below = there_is c.args.self.now c.self.inside.room c.self.inside.lengths.items c.self.inside.values.items c.args.row
    c.self.view_is c.requires.row in
    let few : c.args.row * c.self.inside.room ≤ length c.self.inside.values.items =
    omega (arith, row_within c.args.row (length c.self.inside.lengths.items) c.self.inside.room 0 below (omega arith), c.self.invariant.0)
    in
    search (rules, few)

pub put-requires : goal.put-requires
put-requires g c =
    let below = there_is c.args.self.now c.self.inside.room c.self.inside.lengths.items c.self.inside.values.items c.args.row
    c.self.view_is c.requires.row in
    let long = seen_length c.args.self.now c.self.inside.room c.self.inside.lengths.items c.self.inside.values.items c.args.row
    c.self.view_is c.self.invariant.0 c.self.invariant.1 below in
    omega (
      arith,
      c.requires.length,
      long,
      ap length c.deref_mut.ensures.value,
      c.self.invariant.0,
      row_within c.args.row
          (length c.self.inside.lengths.items) c.self.inside.room (get_or c.self.inside.lengths.items c.args.row 0) below
          (c.self.invariant.1 c.args.row),
    )

pub returns : goal.returns
returns g c =
    let below = there_is c.args.self.now c.self.inside.room c.self.inside.lengths.items c.self.inside.values.items c.args.row
    c.self.view_is c.requires.row in
    let long = seen_length c.args.self.now c.self.inside.room c.self.inside.lengths.items c.self.inside.values.items c.args.row
    c.self.view_is c.self.invariant.0 c.self.invariant.1 below in
    let made = put_is (c.args.row * c.self.inside.room) (length c.args.values.now) c.args.values.now c.self.inside.values.items
    c.put.new.all refl
    (c.put.ensures ∙ ap (λ all. take (c.args.row * c.self.inside.room) all
    ++ (c.args.values.now ++ drop (c.args.row * c.self.inside.room + length c.args.values.now) all)) c.deref_mut.ensures.value) in
    copy_rest c.args.self.now c.self.inside.room c.self.inside.lengths.items c.self.inside.values c.args.row c.args.values.now
    c.put.new.all c.self.view_is c.self.invariant.0 c.self.invariant.1 below (c.requires.length ∙ long) made
