use Rattle.std.proofs.Common.{rules, arith, ◌<◌, ◌-◌, ◌*◌, length, ap}
use Rattle.iox_domain_ports.proofs.Segments.{slot_within}
use Rattle.iox_domain_ports.proofs.Marking.{slot_there, marking_there, written_row, written_seen}
use Rattle.iox_domain_ports.proofs.messages.marks.Marks.write.Goals as goal

pub index-requires : goal.index-requires
index-requires c =
    let below : c.args.slot < length c.self.inside.markings.items
    = marking_there c.self.inside.markings.items c.self.inside.rows c.args.self.now c.args.slot
    ((c.self.inside.rows.most_segments - c.self.inside.rows.segments) * c.self.inside.rows.size) c.self.view_is c.self.invariant.0
    (slot_within c.args.self.now.payloads c.args.slot c.args.place c.requires) in
    search (rules, below)

pub write_out-requires : goal.write_out-requires
write_out-requires c = slot_there c.self.inside.markings.items c.self.inside.rows c.args.self.now c.args.slot c.self.view_is
    (slot_within c.args.self.now.payloads c.args.slot c.args.place c.requires)

pub write-requires : goal.write-requires
write-requires c = omega (
  arith,
  c.requires,
  ap length
      (written_row c.self.inside.markings.items c.self.inside.rows c.write_out.new.rows c.args.self.now c.args.slot
      ((c.self.inside.rows.most_segments - c.self.inside.rows.segments) * c.self.inside.rows.size) c.index.result.now c.self.view_is
      c.self.invariant.0 (slot_within c.args.self.now.payloads c.args.slot c.args.place c.requires) c.index.ensures c.write_out.ensures),
)

pub index_mut-requires : goal.index_mut-requires
index_mut-requires c =
    let below : c.args.slot < length c.self.inside.markings.items
    = marking_there c.self.inside.markings.items c.self.inside.rows c.args.self.now c.args.slot
    ((c.self.inside.rows.most_segments - c.self.inside.rows.segments) * c.self.inside.rows.size) c.self.view_is c.self.invariant.0
    (slot_within c.args.self.now.payloads c.args.slot c.args.place c.requires) in
    search (rules, below)

pub returns : goal.returns
returns c = written_seen c.self.inside.markings.items c.self.inside.rows c.write_out.new.rows c.write.new.self c.args.self.now
    c.args.slot ((c.self.inside.rows.most_segments - c.self.inside.rows.segments) * c.self.inside.rows.size) c.args.place
    c.index.result.now c.args.mark c.self.view_is c.self.invariant.0
    (slot_within c.args.self.now.payloads c.args.slot c.args.place c.requires) c.index.ensures c.write_out.ensures c.write.ensures
