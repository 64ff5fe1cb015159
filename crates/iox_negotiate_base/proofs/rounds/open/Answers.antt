use Rattle.std.proofs.Common.{arith, refl}
use Rattle.iox_negotiate_base.specs.Opening.{OpenRound}
use Rattle.iox_negotiate_base.proofs.Doing.{led-more, round-ends, rounds-exhausted, idle}
use Rattle.iox_negotiate_base.proofs.rounds.open.Goals as goal

pub loop-round-init : goal.loop-round-init
loop-round-init g c = idle _ _ refl

pub loop-round-preserved : goal.loop-round-preserved
loop-round-preserved g c =
    led-more (OpenRound (g.R.Request.hash c.args.request.now) (g.R.Request.node c.args.request.now)
    (g.R.Request.verdict c.args.request.now)) _ _ _ _ _ (omega arith) c.loop-round.invariant c.in_default.ensures

pub returns-in-Some : goal.returns-in-Some
returns-in-Some g c = round-ends _ _ _ _ _ _ _ (omega (arith, c.loop-round-test.true)) c.loop-round.invariant c.in-Some.ensures

pub returns : goal.returns
returns g c = rounds-exhausted _ _ _ _ _ (omega (arith, c.loop-round.auto.round-end)) c.loop-round.invariant
