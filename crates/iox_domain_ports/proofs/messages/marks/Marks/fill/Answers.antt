use Rattle.std.proofs.Common.{rules, ◌<◌, ◌-◌, ◌*◌, length}
use Rattle.iox_domain_ports.proofs.Marking.{marking_there, still_enough, filled_seen}
use Rattle.iox_domain_ports.proofs.messages.marks.Marks.fill.Goals as goal

pub index_mut-requires : goal.index_mut-requires
index_mut-requires c =
    let below : c.args.slot < length c.self.inside.markings.items
    = marking_there c.self.inside.markings.items c.self.inside.rows c.args.self.now c.args.slot
    ((c.self.inside.rows.most_segments - c.self.inside.rows.segments) * c.self.inside.rows.size) c.self.view_is c.self.invariant.0
    c.requires in
    search (rules, below)

pub invariant_of-self : goal.invariant_of-self
invariant_of-self c = still_enough c.self.inside.markings.items c.self.inside.rows c.args.self.now c.args.slot
    ((c.self.inside.rows.most_segments - c.self.inside.rows.segments) * c.self.inside.rows.size) c.marking_of.result c.self.view_is
    c.requires c.self.invariant.0 c.self.invariant.1

pub returns : goal.returns
returns c = filled_seen c.self.inside.markings.items c.self.inside.rows c.args.self.now c.args.slot
    ((c.self.inside.rows.most_segments - c.self.inside.rows.segments) * c.self.inside.rows.size) c.marking_of.result c.args.mark
    c.self.view_is c.self.invariant.0 c.requires c.marking_of.ensures
