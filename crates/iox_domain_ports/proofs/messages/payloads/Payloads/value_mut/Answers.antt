use Rattle.std.proofs.Common.{rules, arith, ◌∙◌, length, get_or, ap, refl, set}
use Rattle.iox_domain_ports.specs.Payloads.{payload_at}
use Rattle.iox_domain_ports.specs.Rows.{row_at, with_row}
use Rattle.iox_domain_ports.proofs.Segments.{some_size, is_within, found, slot_within}
use Rattle.iox_domain_ports.proofs.messages.payloads.Payloads.value_mut.Goals as goal

pub row_of-row-requires : goal.row_of-row-requires
row_of-row-requires g c = some_size c.args.self.now c.self.inside.size c.self.inside.most_segments c.self.inside.segments.items
    c.args.slot c.self.view_is c.self.invariant.0 (slot_within c.args.self.now.payloads c.args.slot c.args.place c.requires)

pub segment_of-requires : goal.segment_of-requires
segment_of-requires g c = some_size c.args.self.now c.self.inside.size c.self.inside.most_segments c.self.inside.segments.items
    c.args.slot c.self.view_is c.self.invariant.0 (slot_within c.args.self.now.payloads c.args.slot c.args.place c.requires)

pub index_mut-segment-requires : goal.index_mut-segment-requires
index_mut-segment-requires g c =
    let within = is_within c.args.self.now c.self.inside.size c.self.inside.most_segments c.self.inside.segments.items c.args.slot
    c.segment_of.result c.self.view_is c.self.invariant.0 (slot_within c.args.self.now.payloads c.args.slot c.args.place c.requires)
    c.segment_of.ensures in
    search (rules, within)

pub value_mut-requires : goal.value_mut-requires
value_mut-requires g c =
    let it = found c.args.self.now c.self.inside.size c.self.inside.most_segments c.self.inside.segments.items c.args.slot
    c.segment_of.result c.row_of-row.result c.index_mut-segment.result.now c.self.view_is c.self.invariant.0
    (slot_within c.args.self.now.payloads c.args.slot c.args.place c.requires) c.segment_of.ensures c.row_of-row.ensures
    c.index_mut-segment.ensures.value in
    omega (arith, c.requires, ap length it.holds)

pub returns : goal.returns
returns g c =
    let it = found c.args.self.now c.self.inside.size c.self.inside.most_segments c.self.inside.segments.items c.args.slot
    c.segment_of.result c.row_of-row.result c.index_mut-segment.result.now c.self.view_is c.self.invariant.0
    (slot_within c.args.self.now.payloads c.args.slot c.args.place c.requires) c.segment_of.ensures c.row_of-row.ensures
    c.index_mut-segment.ensures.value in (
      (
        refl,
        λ value. it.changed (set (payload_at c.args.slot c.args.self.now) c.args.place value)
            (with_row c.row_of-row.result (set (row_at c.row_of-row.result c.index_mut-segment.result.now) c.args.place value)
            c.index_mut-segment.result.now)
            (ap (λ values. with_row c.row_of-row.result (set values c.args.place value) c.index_mut-segment.result.now) it.holds),
      ),
      record {
        writes_back = tt;
        value
            = c.value_mut.ensures.value ∙ ap (λ values. get_or values c.args.place c.value_mut.result.now) it.holds;
      },
    )
