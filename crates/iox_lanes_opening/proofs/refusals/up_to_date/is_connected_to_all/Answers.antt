use Rattle.std.proofs.Common.{sym, ◌∙◌, length}
use Rattle.iox_lanes_opening.specs.UpToDate.{is_connected}
use Rattle.iox_lanes_opening.proofs.Listing.{not_each, each_of_all, hold_more}
use Rattle.iox_lanes_opening.proofs.refusals.up_to_date.is_connected_to_all.Goals as goal

pub returns-then-not-is_connected_at : goal.returns-then-not-is_connected_at
returns-then-not-is_connected_at g c =
    sym (not_each (is_connected c.args.place c.args.number c.args.port.now c.args.ports.now.subscribers)
    (length c.args.ports.now.subscriber_list.places) c.loop-other.other c.listed-listed.result.now
    c.args.ports.now.subscriber_list.places c.index-listed-other.result
    c.listed-listed.ensures.whole c.loop-other-test.true c.index-listed-other.is
    (sym c.is_connected_at.ensures ∙ c.if-not-is_connected_at.true))

pub returns : goal.returns
returns g c =
    sym (each_of_all (is_connected c.args.place c.args.number c.args.port.now c.args.ports.now.subscribers)
    (length c.args.ports.now.subscriber_list.places) c.loop-other.other c.listed-listed.result.now
    c.args.ports.now.subscriber_list.places c.listed-listed.ensures.whole c.loop-other-test.false c.loop-other.invariant)

pub loop-other-preserved : goal.loop-other-preserved
loop-other-preserved g c =
    hold_more (is_connected c.args.place c.args.number c.args.port.now c.args.ports.now.subscribers) c.listed-listed.result.now
    c.loop-other.other c.index-listed-other.result c.loop-other.invariant
    c.loop-other-test.true c.index-listed-other.is (sym c.is_connected_at.ensures ∙ c.if-not-is_connected_at.false)
