use Rattle.std.proofs.Common.{arith}
use Rattle.iox_domain_ports.proofs.Followings.{only_still, following_none, following_on, followed}
use Rattle.iox_domain_ports.proofs.publisher_port.PublisherPort.follow_all.Goals as goal

pub loop-place-init : goal.loop-place-init
loop-place-init g c = following_none _ _ _

pub loop-place-preserved : goal.loop-place-preserved
loop-place-preserved g c = following_on _ _ _ _ _ c.loop-place.place c.index-listed-place.result
    c.index-listed-place-in-loop-place.result c.loop-place.found c.ask-found.result c.follow-outcome.result c.is_ok.result
    c.loop-place.invariant (omega (arith, c.loop-place-test.true)) c.index-listed-place.is c.index-listed-place-in-loop-place.is
    c.is_ok.ensures.value
    c.follow-outcome.ensures.follows c.follow-outcome.ensures.same c.ask-found.ensures

pub returns-clause-follows : goal.returns-clause-follows
returns-clause-follows g c = followed _ _ _ _ _ c.loop-place.place c.loop-place.found _ c.loop-place.invariant
    (omega (arith, c.loop-place.auto.place-end)) (omega (arith, c.loop-place-test.false)) c.answer_of.ensures c.untie_from.ensures.untied

pub returns-clause-only : goal.returns-clause-only
returns-clause-only g c = only_still c.args.self.now c.loop-place.self c.untie_from.new.self c.loop-place.invariant.only
    c.untie_from.ensures.same
