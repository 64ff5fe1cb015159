use Rattle.std.proofs.Common.{arith}
use Rattle.iox_lanes_opening.proofs.Losing.{one_lost, all_lost}
use Rattle.iox_lanes_opening.proofs.leaving.clearing.lose_waiting.Goals as goal

pub loop-index-preserved : goal.loop-index-preserved
loop-index-preserved g c = one_lost c.args.sender.now c.loop-index.sender c.lose_waiting_at.new.sender c.loop-index.index
    c.loop-index.invariant
    (omega (arith, c.loop-index-test.true, c.indices-index-end.ensures.value)) c.lose_waiting_at.ensures

pub returns-clause-rest : goal.returns-clause-rest
returns-clause-rest g c = c.loop-index.invariant.rest

pub returns-clause-each : goal.returns-clause-each
returns-clause-each g c = all_lost c.args.sender.now c.loop-index.sender c.loop-index.index c.loop-index.invariant
    (omega (arith, c.loop-index-test.false, c.loop-index.auto.index-end, c.indices-index-end.ensures.value))

pub returns-clause-count : goal.returns-clause-count
returns-clause-count g c = c.loop-index.invariant.same
