use Rattle.std.proofs.Common.{length}
use Rattle.iox_lanes.proofs.Listing.{numbers_next, numbers_whole}
use Rattle.iox_lanes.proofs.listed.publishers_listed.Goals as goal

pub returns : goal.returns
returns c = numbers_whole (λ entry. entry.publisher) c.listed-listed.result.now c.args.list.now.places (length c.args.list.now.places)
    c.loop-at.at c.loop-at.numbers.items c.listed-listed.ensures.whole c.loop-at-test.false c.loop-at.invariant

pub loop-at-preserved : goal.loop-at-preserved
loop-at-preserved c = numbers_next (λ entry. entry.publisher) c.listed-listed.result.now c.loop-at.at c.index-listed-at.result
    c.loop-at.numbers.items _ c.loop-at-test.true c.index-listed-at.is c.loop-at.invariant c.in_ok-add_publisher.ensures
