use Rattle.std.proofs.Common.{rules, arith, ◌∙◌, length, ap, sym}
use Rattle.iox_domain_ports.specs.Payloads.{payload_at, with_payload}
use Rattle.iox_domain_ports.specs.Rows.{row_at}
use Rattle.iox_domain_ports.proofs.Segments.{some_size, is_within, found, payload_changed}
use Rattle.iox_domain_ports.proofs.messages.payloads.Payloads.set_length.Goals as goal

pub row_of-row-requires : goal.row_of-row-requires
row_of-row-requires g c = some_size c.args.self.now c.self.inside.size c.self.inside.most_segments c.self.inside.segments.items
    c.args.slot c.self.view_is c.self.invariant.0 c.requires.slot

pub segment_of-requires : goal.segment_of-requires
segment_of-requires g c = some_size c.args.self.now c.self.inside.size c.self.inside.most_segments c.self.inside.segments.items
    c.args.slot c.self.view_is c.self.invariant.0 c.requires.slot

pub index_mut-segment-requires : goal.index_mut-segment-requires
index_mut-segment-requires g c =
    let within = is_within c.args.self.now c.self.inside.size c.self.inside.most_segments c.self.inside.segments.items c.args.slot
    c.segment_of.result c.self.view_is c.self.invariant.0 c.requires.slot c.segment_of.ensures in
    search (rules, within)

pub set_length-requires-clause-row : goal.set_length-requires-clause-row
set_length-requires-clause-row g c =
    (found c.args.self.now c.self.inside.size c.self.inside.most_segments c.self.inside.segments.items c.args.slot c.segment_of.result
    c.row_of-row.result c.index_mut-segment.result.now c.self.view_is c.self.invariant.0 c.requires.slot c.segment_of.ensures
    c.row_of-row.ensures c.index_mut-segment.ensures.value).row_is

pub set_length-requires-clause-room : goal.set_length-requires-clause-room
set_length-requires-clause-room g c =
    let it = found c.args.self.now c.self.inside.size c.self.inside.most_segments c.self.inside.segments.items c.args.slot
    c.segment_of.result c.row_of-row.result c.index_mut-segment.result.now c.self.view_is c.self.invariant.0 c.requires.slot
    c.segment_of.ensures c.row_of-row.ensures c.index_mut-segment.ensures.value in
    omega (arith, c.requires.room, it.last c.requires.last)

pub returns-clause-length : goal.returns-clause-length
returns-clause-length g c =
    let it = found c.args.self.now c.self.inside.size c.self.inside.most_segments c.self.inside.segments.items c.args.slot
    c.segment_of.result c.row_of-row.result c.index_mut-segment.result.now c.self.view_is c.self.invariant.0 c.requires.slot
    c.segment_of.ensures c.row_of-row.ensures c.index_mut-segment.ensures.value in
    ap (λ s. length (payload_at c.args.slot s))
    (it.changed (row_at c.row_of-row.result c.set_length.new.self) c.set_length.new.self c.set_length.ensures.rest)
    ∙ ap length (payload_changed c.args.self.now c.args.slot (row_at c.row_of-row.result c.set_length.new.self) c.requires.slot)
    ∙ c.set_length.ensures.length

pub returns-clause-rest : goal.returns-clause-rest
returns-clause-rest g c =
    let it = found c.args.self.now c.self.inside.size c.self.inside.most_segments c.self.inside.segments.items c.args.slot
    c.segment_of.result c.row_of-row.result c.index_mut-segment.result.now c.self.view_is c.self.invariant.0 c.requires.slot
    c.segment_of.ensures c.row_of-row.ensures c.index_mut-segment.ensures.value in
    let new = it.changed (row_at c.row_of-row.result c.set_length.new.self) c.set_length.new.self c.set_length.ensures.rest in
    new ∙ ap (λ values. with_payload c.args.slot values c.args.self.now)
    (sym (ap (payload_at c.args.slot) new ∙ payload_changed c.args.self.now c.args.slot
    (row_at c.row_of-row.result c.set_length.new.self) c.requires.slot))
