use Rattle.iox_lanes.proofs.Forgetting.{one_more, of_all}
use Rattle.iox_lanes.proofs.threads.emptying.forget_all.Goals as goal

pub loop-at-preserved : goal.loop-at-preserved
loop-at-preserved g c = one_more c.args.numbers.now c.args.publishers.now c.loop-at.publishers c.forget_at.new.publishers c.loop-at.at
    c.loop-at-test.true c.loop-at.invariant c.forget_at.ensures

pub returns : goal.returns
returns g c = of_all c.args.numbers.now c.args.publishers.now c.loop-at.publishers c.loop-at.at c.loop-at-test.false c.loop-at.invariant
