use Rattle.std.proofs.Common.{sym, ◌∙◌, length}
use Rattle.iox_lanes_opening.specs.UpToDate.{is_current_subscriber}
use Rattle.iox_lanes_opening.proofs.Listing.{not_each, each_of_all, hold_more}
use Rattle.iox_lanes_opening.proofs.refusals.up_to_date.are_subscribers_current.Goals as goal

pub returns-then-not-is_current_subscriber_at : goal.returns-then-not-is_current_subscriber_at
returns-then-not-is_current_subscriber_at g c =
    sym (not_each (λ at entry. is_current_subscriber c.args.ports.now entry) (length c.args.ports.now.subscriber_list.places)
    c.loop-place.place c.listed-listed.result.now c.args.ports.now.subscriber_list.places c.index-listed-place.result
    c.listed-listed.ensures.whole c.loop-place-test.true c.index-listed-place.is
    (sym c.is_current_subscriber_at.ensures ∙ c.if-not-is_current_subscriber_at.true))

pub returns : goal.returns
returns g c =
    sym (each_of_all (λ at entry. is_current_subscriber c.args.ports.now entry) (length c.args.ports.now.subscriber_list.places)
    c.loop-place.place c.listed-listed.result.now c.args.ports.now.subscriber_list.places c.listed-listed.ensures.whole
    c.loop-place-test.false c.loop-place.invariant)

pub loop-place-preserved : goal.loop-place-preserved
loop-place-preserved g c =
    hold_more (λ at entry. is_current_subscriber c.args.ports.now entry) c.listed-listed.result.now c.loop-place.place
    c.index-listed-place.result c.loop-place.invariant
    c.loop-place-test.true c.index-listed-place.is (sym c.is_current_subscriber_at.ensures ∙ c.if-not-is_current_subscriber_at.false)
