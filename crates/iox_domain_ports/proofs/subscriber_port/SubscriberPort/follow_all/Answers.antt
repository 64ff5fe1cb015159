use Rattle.std.proofs.Common.{arith}
use Rattle.iox_domain_ports.proofs.Walking.{following_none, following_on, followed}
use Rattle.iox_domain_ports.proofs.subscriber_port.SubscriberPort.follow_all.Goals as goal

pub loop-place-init : goal.loop-place-init
loop-place-init g c = following_none _ _ _ _ _

pub loop-place-preserved : goal.loop-place-preserved
loop-place-preserved g c = following_on _ _ _ _ _ _ _ _ _ c.loop-place.place c.index-listed-place.result
    c.index-listed-place-in-loop-place.result c.loop-place.found c.ask-found.result c.follow_one-outcome.result
    c.loop-place.invariant (omega (arith, c.loop-place-test.true)) c.index-listed-place.is c.index-listed-place-in-loop-place.is
    c.follow_one-outcome.ensures c.ask-found.ensures

pub returns : goal.returns
returns g c = followed _ _ _ _ _ _ _ c.loop-place.place c.loop-place.found c.loop-place.invariant (omega (arith, c.loop-place-test.false))
