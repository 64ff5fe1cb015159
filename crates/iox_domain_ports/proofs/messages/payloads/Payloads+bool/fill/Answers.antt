use Rattle.std.proofs.Common.{rules, ◌∙◌, ap, length, replicate}
use Rattle.iox_domain_ports.specs.Rows.{with_row}
use Rattle.iox_domain_ports.specs.Payloads.{payload_at}
use Rattle.iox_domain_ports.proofs.Segments.{some_size, is_within, found}
use Rattle.iox_domain_ports.proofs.messages.payloads.Payloads+bool.fill.Goals as goal

pub row_of-row-requires : goal.row_of-row-requires
row_of-row-requires c = some_size c.args.self.now c.self.inside.size c.self.inside.most_segments c.self.inside.segments.items
    c.args.slot c.self.view_is c.self.invariant.0 c.requires

pub segment_of-requires : goal.segment_of-requires
segment_of-requires c = some_size c.args.self.now c.self.inside.size c.self.inside.most_segments c.self.inside.segments.items
    c.args.slot c.self.view_is c.self.invariant.0 c.requires

pub index_mut-segment-requires : goal.index_mut-segment-requires
index_mut-segment-requires c =
    let within = is_within c.args.self.now c.self.inside.size c.self.inside.most_segments c.self.inside.segments.items c.args.slot
    c.segment_of.result c.self.view_is c.self.invariant.0 c.requires c.segment_of.ensures in
    search (rules, within)

pub fill-requires : goal.fill-requires
fill-requires c = (found c.args.self.now c.self.inside.size c.self.inside.most_segments c.self.inside.segments.items c.args.slot
    c.segment_of.result c.row_of-row.result c.index_mut-segment.result.now c.self.view_is c.self.invariant.0 c.requires
    c.segment_of.ensures c.row_of-row.ensures c.index_mut-segment.ensures.value).row_is

pub returns : goal.returns
returns c =
    let it = found c.args.self.now c.self.inside.size c.self.inside.most_segments c.self.inside.segments.items c.args.slot
    c.segment_of.result c.row_of-row.result c.index_mut-segment.result.now c.self.view_is c.self.invariant.0 c.requires
    c.segment_of.ensures c.row_of-row.ensures c.index_mut-segment.ensures.value in
    it.changed (replicate (length (payload_at c.args.slot c.args.self.now)) c.args.mark) c.fill.new.self
    (c.fill.ensures ∙ ap (λ values. with_row c.row_of-row.result (replicate (length values) c.args.mark) c.index_mut-segment.result.now)
    it.holds)
