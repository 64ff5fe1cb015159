use Rattle.std.proofs.Common.{rules, arith, ◌≡◌, ◌∙◌, ◌≤◌, ◌*◌, length, get_or, ap, sym, take, drop, ◌++◌, ◌+◌, replicate}
use Rattle.std.proofs.lemmas.List.{length-replicate}
use Rattle.std.proofs.lemmas.Grind.{get_or_default_zero}
use Rattle.iox_domain_ports.specs.Rows.{with_row}
use Rattle.iox_domain_ports.proofs.RowsIn.{row_within, there_is, seen_length, put_is, copy_rest}
use Rattle.iox_domain_ports.proofs.messages.rows.Rows+bool.fill.Goals as goal

pub overflow_mul-start : goal.overflow_mul-start
overflow_mul-start c =
    let below = there_is c.args.self.now c.self.inside.room c.self.inside.lengths.items c.self.inside.values.items c.args.row
    c.self.view_is c.requires in
    let few : c.args.row * c.self.inside.room ≤ length c.self.inside.values.items =
    omega (arith, row_within c.args.row (length c.self.inside.lengths.items) c.self.inside.room 0 below (omega arith), c.self.invariant.0)
    in
    search (rules, few)

pub index-requires : goal.index-requires
index-requires c =
    let below = there_is c.args.self.now c.self.inside.room c.self.inside.lengths.items c.self.inside.values.items c.args.row
    c.self.view_is c.requires in
    search (rules, below)

pub mark_part-requires : goal.mark_part-requires
mark_part-requires c =
    let below = there_is c.args.self.now c.self.inside.room c.self.inside.lengths.items c.self.inside.values.items c.args.row
    c.self.view_is c.requires in
    let count : c.index.result.now ≡ get_or c.self.inside.lengths.items c.args.row 0
    = c.index.ensures ∙ get_or_default_zero c.self.inside.lengths.items c.args.row c.index.result.now below in
    omega (
      arith,
      count,
      ap length c.deref_mut.ensures.value,
      c.self.invariant.0,
      row_within c.args.row
          (length c.self.inside.lengths.items) c.self.inside.room (get_or c.self.inside.lengths.items c.args.row 0) below
          (c.self.invariant.1 c.args.row),
    )

pub returns : goal.returns
returns c =
    let below = there_is c.args.self.now c.self.inside.room c.self.inside.lengths.items c.self.inside.values.items c.args.row
    c.self.view_is c.requires in
    let count : c.index.result.now ≡ get_or c.self.inside.lengths.items c.args.row 0
    = c.index.ensures ∙ get_or_default_zero c.self.inside.lengths.items c.args.row c.index.result.now below in
    let long = seen_length c.args.self.now c.self.inside.room c.self.inside.lengths.items c.self.inside.values.items c.args.row
    c.self.view_is c.self.invariant.0 c.self.invariant.1 below in
    let many = length-replicate c.index.result.now c.args.mark in
    let made = put_is (c.args.row * c.self.inside.room) c.index.result.now (replicate c.index.result.now c.args.mark)
    c.self.inside.values.items c.mark_part.new.all many
    (c.mark_part.ensures ∙ ap (λ all. take (c.args.row * c.self.inside.room) all
    ++ (replicate c.index.result.now c.args.mark ++ drop (c.args.row * c.self.inside.room + c.index.result.now) all))
    c.deref_mut.ensures.value) in
    copy_rest c.args.self.now c.self.inside.room c.self.inside.lengths.items c.self.inside.values c.args.row
    (replicate c.index.result.now c.args.mark) c.mark_part.new.all c.self.view_is c.self.invariant.0 c.self.invariant.1 below
    (many ∙ count) made
    ∙ ap (λ n. with_row c.args.row (replicate n c.args.mark) c.args.self.now) (count ∙ sym long)
