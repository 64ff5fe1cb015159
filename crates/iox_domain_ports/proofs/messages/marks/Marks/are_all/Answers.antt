use Rattle.std.proofs.Common.{rules, ◌<◌, ◌∙◌, ◌-◌, ◌*◌, ◌==◌, length, ap, sym}
use Rattle.std.specs.List.{list_all}
use Rattle.iox_domain_ports.specs.Payloads.{payload_at}
use Rattle.iox_domain_ports.proofs.Marking.{slot_there, marking_there, marks_by, all_true, false_all}
use Rattle.iox_domain_ports.proofs.messages.marks.Marks.are_all.Goals as goal

pub index-requires : goal.index-requires
index-requires c =
    let below : c.args.slot < length c.self.inside.markings.items
    = marking_there c.self.inside.markings.items c.self.inside.rows c.args.self.now c.args.slot
    ((c.self.inside.rows.most_segments - c.self.inside.rows.segments) * c.self.inside.rows.size) c.self.view_is c.self.invariant.0
    c.requires in
    search (rules, below)

pub values-requires : goal.values-requires
values-requires c = slot_there c.self.inside.markings.items c.self.inside.rows c.args.self.now c.args.slot c.self.view_is c.requires

pub values-requires-in-EachMarked : goal.values-requires-in-EachMarked
values-requires-in-EachMarked c = slot_there c.self.inside.markings.items c.self.inside.rows c.args.self.now c.args.slot c.self.view_is
    c.requires

pub returns-in-Unwritten : goal.returns-in-Unwritten
returns-in-Unwritten c =
    let marks = rw c.in-Unwritten.is at
    (marks_by c.self.inside.markings.items c.self.inside.rows c.args.self.now c.args.slot
    ((c.self.inside.rows.most_segments - c.self.inside.rows.segments) * c.self.inside.rows.size) c.index.result.now c.self.view_is
    c.self.invariant.0 c.requires c.index.ensures) in
    c.is_empty.ensures ∙ ap (λ row. length row == 0) c.values.ensures ∙ false_all (length (payload_at c.args.slot c.self.inside.rows)) ∙
    sym (ap (λ marks. list_all (λ mark. mark) marks) marks)

pub returns-in-Written : goal.returns-in-Written
returns-in-Written c =
    let marks = rw c.in-Written.is at (marks_by c.self.inside.markings.items c.self.inside.rows c.args.self.now c.args.slot
    ((c.self.inside.rows.most_segments - c.self.inside.rows.segments) * c.self.inside.rows.size) c.index.result.now c.self.view_is
    c.self.invariant.0 c.requires c.index.ensures) in
    sym (ap (λ marks. list_all (λ mark. mark) marks) marks ∙ all_true (length (payload_at c.args.slot c.self.inside.rows)))

pub returns-in-EachMarked : goal.returns-in-EachMarked
returns-in-EachMarked c =
    let marks = rw c.in-EachMarked.is at
    (marks_by c.self.inside.markings.items c.self.inside.rows c.args.self.now c.args.slot
    ((c.self.inside.rows.most_segments - c.self.inside.rows.segments) * c.self.inside.rows.size) c.index.result.now c.self.view_is
    c.self.invariant.0 c.requires c.index.ensures) in
    c.all_marked.ensures ∙ ap (λ marks. list_all (λ mark. mark) marks) (c.values-in-EachMarked.ensures ∙ sym marks)
