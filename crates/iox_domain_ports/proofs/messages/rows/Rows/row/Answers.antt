use Rattle.std.proofs.Common.{rules, arith, ◌≡◌, ◌*◌, ◌≤◌, ◌∙◌, length, get_or, ap, sym, take, drop}
use Rattle.std.proofs.lemmas.Grind.{get_or_default_zero}
use Rattle.iox_domain_ports.proofs.RowsIn.{row_within, row_seen, there_is}
use Rattle.iox_domain_ports.proofs.messages.rows.Rows.row.Goals as goal

pub overflow_mul-row : goal.overflow_mul-row
overflow_mul-row g c =
    let below = there_is c.args.self.now c.self.inside.room c.self.inside.lengths.items c.self.inside.values.items c.args.row
    c.self.view_is c.requires in
    let few : c.args.row * c.self.inside.room ≤ length c.self.inside.values.items =
    omega (arith, row_within c.args.row (length c.self.inside.lengths.items) c.self.inside.room 0 below (omega arith), c.self.invariant.0)
    in
    search (rules, few)

pub index-requires : goal.index-requires
index-requires g c =
    let below = there_is c.args.self.now c.self.inside.room c.self.inside.lengths.items c.self.inside.values.items c.args.row
    c.self.view_is c.requires in
    search (rules, below)

pub part-requires : goal.part-requires
part-requires g c =
    let below = there_is c.args.self.now c.self.inside.room c.self.inside.lengths.items c.self.inside.values.items c.args.row
    c.self.view_is c.requires in
    let count : c.index.result.now ≡ get_or c.self.inside.lengths.items c.args.row 0
    = c.index.ensures ∙ get_or_default_zero c.self.inside.lengths.items c.args.row c.index.result.now below in
    let all : length c.deref.result.now ≡ length c.self.inside.values.items = search (rules, c.deref.ensures) in
    omega (
      arith,
      all,
      count,
      c.self.invariant.0,
      row_within c.args.row (length c.self.inside.lengths.items) c.self.inside.room
          (get_or c.self.inside.lengths.items c.args.row 0) below (c.self.invariant.1 c.args.row),
    )

pub returns : goal.returns
returns g c =
    let below = there_is c.args.self.now c.self.inside.room c.self.inside.lengths.items c.self.inside.values.items c.args.row
    c.self.view_is c.requires in
    let count : c.index.result.now ≡ get_or c.self.inside.lengths.items c.args.row 0
    = c.index.ensures ∙ get_or_default_zero c.self.inside.lengths.items c.args.row c.index.result.now below in
    let all : c.deref.result.now ≡ c.self.inside.values.items = search (rules, c.deref.ensures) in
    c.part.ensures ∙ ap (λ n. take n (drop (c.args.row * c.self.inside.room) c.deref.result.now)) count
    ∙ ap (λ xs. take (get_or c.self.inside.lengths.items c.args.row 0) (drop (c.args.row * c.self.inside.room) xs)) all
    ∙ sym (row_seen c.args.self.now c.self.inside.room c.self.inside.lengths.items c.self.inside.values.items c.args.row c.self.view_is
    below)
