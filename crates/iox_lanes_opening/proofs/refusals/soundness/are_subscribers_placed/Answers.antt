use Rattle.std.proofs.Common.{sym, ◌∙◌, length}
use Rattle.iox_lanes_opening.specs.Soundness.{is_subscriber_placed}
use Rattle.iox_lanes_opening.proofs.Listing.{not_each, each_of_all, hold_more}
use Rattle.iox_lanes_opening.proofs.refusals.soundness.are_subscribers_placed.Goals as goal

pub returns-then-not-is_subscriber_placed_at : goal.returns-then-not-is_subscriber_placed_at
returns-then-not-is_subscriber_placed_at g c =
    sym (not_each (is_subscriber_placed c.args.ports.now) (length c.args.ports.now.subscriber_list.places) c.loop-place.place
    c.listed-listed.result.now c.args.ports.now.subscriber_list.places c.index-listed-place.result
    c.listed-listed.ensures.whole c.loop-place-test.true c.index-listed-place.is
    (sym c.is_subscriber_placed_at.ensures ∙ c.if-not-is_subscriber_placed_at.true))

pub returns : goal.returns
returns g c =
    sym (each_of_all (is_subscriber_placed c.args.ports.now) (length c.args.ports.now.subscriber_list.places) c.loop-place.place
    c.listed-listed.result.now c.args.ports.now.subscriber_list.places c.listed-listed.ensures.whole c.loop-place-test.false
    c.loop-place.invariant)

pub loop-place-preserved : goal.loop-place-preserved
loop-place-preserved g c =
    hold_more (is_subscriber_placed c.args.ports.now) c.listed-listed.result.now c.loop-place.place c.index-listed-place.result
    c.loop-place.invariant
    c.loop-place-test.true c.index-listed-place.is (sym c.is_subscriber_placed_at.ensures ∙ c.if-not-is_subscriber_placed_at.false)
