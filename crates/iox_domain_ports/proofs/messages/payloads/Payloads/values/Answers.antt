use Rattle.std.proofs.Common.{rules, ◌∙◌}
use Rattle.iox_domain_ports.proofs.Segments.{some_size, is_within, found}
use Rattle.iox_domain_ports.proofs.messages.payloads.Payloads.values.Goals as goal

pub row_of-row-requires : goal.row_of-row-requires
row_of-row-requires g c = some_size c.args.self.now c.self.inside.size c.self.inside.most_segments c.self.inside.segments.items
    c.args.slot c.self.view_is c.self.invariant.0 c.requires

pub segment_of-requires : goal.segment_of-requires
segment_of-requires g c = some_size c.args.self.now c.self.inside.size c.self.inside.most_segments c.self.inside.segments.items
    c.args.slot c.self.view_is c.self.invariant.0 c.requires

pub index-segment-requires : goal.index-segment-requires
index-segment-requires g c =
    let within = is_within c.args.self.now c.self.inside.size c.self.inside.most_segments c.self.inside.segments.items c.args.slot
    c.segment_of.result c.self.view_is c.self.invariant.0 c.requires c.segment_of.ensures in
    search (rules, within)

pub row-requires : goal.row-requires
row-requires g c = (found c.args.self.now c.self.inside.size c.self.inside.most_segments c.self.inside.segments.items c.args.slot
    c.segment_of.result c.row_of-row.result c.index-segment.result.now c.self.view_is c.self.invariant.0 c.requires c.segment_of.ensures
    c.row_of-row.ensures c.index-segment.ensures).row_is

pub returns : goal.returns
returns g c = c.row.ensures ∙ (found c.args.self.now c.self.inside.size c.self.inside.most_segments c.self.inside.segments.items
    c.args.slot c.segment_of.result c.row_of-row.result c.index-segment.result.now c.self.view_is c.self.invariant.0 c.requires
    c.segment_of.ensures c.row_of-row.ensures c.index-segment.ensures).holds
