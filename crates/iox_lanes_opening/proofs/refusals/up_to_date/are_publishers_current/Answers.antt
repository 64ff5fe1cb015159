use Rattle.std.proofs.Common.{sym, ◌∙◌, length}
use Rattle.iox_lanes_opening.specs.UpToDate.{is_current_publisher}
use Rattle.iox_lanes_opening.proofs.Listing.{not_each, each_of_all, hold_more}
use Rattle.iox_lanes_opening.proofs.refusals.up_to_date.are_publishers_current.Goals as goal

pub returns-then-not-is_current_publisher_at : goal.returns-then-not-is_current_publisher_at
returns-then-not-is_current_publisher_at g c =
    sym (not_each (is_current_publisher c.args.ports.now) (length c.args.ports.now.publisher_list.places) c.loop-place.place
    c.listed-listed.result.now c.args.ports.now.publisher_list.places c.index-listed-place.result
    c.listed-listed.ensures.whole c.loop-place-test.true c.index-listed-place.is
    (sym c.is_current_publisher_at.ensures ∙ c.if-not-is_current_publisher_at.true))

pub returns : goal.returns
returns g c =
    sym (each_of_all (is_current_publisher c.args.ports.now) (length c.args.ports.now.publisher_list.places) c.loop-place.place
    c.listed-listed.result.now c.args.ports.now.publisher_list.places c.listed-listed.ensures.whole c.loop-place-test.false
    c.loop-place.invariant)

pub loop-place-preserved : goal.loop-place-preserved
loop-place-preserved g c =
    hold_more (is_current_publisher c.args.ports.now) c.listed-listed.result.now c.loop-place.place c.index-listed-place.result
    c.loop-place.invariant
    c.loop-place-test.true c.index-listed-place.is (sym c.is_current_publisher_at.ensures ∙ c.if-not-is_current_publisher_at.false)
