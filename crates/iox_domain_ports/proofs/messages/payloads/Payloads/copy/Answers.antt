use Rattle.std.proofs.Common.{rules, ◌∙◌, ap, sym, length}
use Rattle.iox_domain_ports.proofs.Segments.{some_size, is_within, found}
use Rattle.iox_domain_ports.proofs.messages.payloads.Payloads.copy.Goals as goal

pub row_of-row-requires : goal.row_of-row-requires
row_of-row-requires g c = some_size c.args.self.now c.self.inside.size c.self.inside.most_segments c.self.inside.segments.items
    c.args.slot c.self.view_is c.self.invariant.0 c.requires.slot

pub segment_of-requires : goal.segment_of-requires
segment_of-requires g c = some_size c.args.self.now c.self.inside.size c.self.inside.most_segments c.self.inside.segments.items
    c.args.slot c.self.view_is c.self.invariant.0 c.requires.slot

pub index_mut-segment-requires : goal.index_mut-segment-requires
index_mut-segment-requires g c =
    let within = is_within c.args.self.now c.self.inside.size c.self.inside.most_segments c.self.inside.segments.items c.args.slot
    c.segment_of.result c.self.view_is c.self.invariant.0 c.requires.slot c.segment_of.ensures in
    search (rules, within)

pub copy-requires-clause-row : goal.copy-requires-clause-row
copy-requires-clause-row g c = (found c.args.self.now c.self.inside.size c.self.inside.most_segments c.self.inside.segments.items
    c.args.slot c.segment_of.result c.row_of-row.result c.index_mut-segment.result.now c.self.view_is c.self.invariant.0 c.requires.slot
    c.segment_of.ensures c.row_of-row.ensures c.index_mut-segment.ensures.value).row_is

pub copy-requires-clause-length : goal.copy-requires-clause-length
copy-requires-clause-length g c =
    let it = found c.args.self.now c.self.inside.size c.self.inside.most_segments c.self.inside.segments.items c.args.slot
    c.segment_of.result c.row_of-row.result c.index_mut-segment.result.now c.self.view_is c.self.invariant.0 c.requires.slot
    c.segment_of.ensures c.row_of-row.ensures c.index_mut-segment.ensures.value in
    c.requires.length ∙ ap length (sym it.holds)

pub returns : goal.returns
returns g c = (found c.args.self.now c.self.inside.size c.self.inside.most_segments c.self.inside.segments.items c.args.slot
    c.segment_of.result c.row_of-row.result c.index_mut-segment.result.now c.self.view_is c.self.invariant.0 c.requires.slot
    c.segment_of.ensures c.row_of-row.ensures c.index_mut-segment.ensures.value).changed
    c.args.values.now c.copy.new.self c.copy.ensures
