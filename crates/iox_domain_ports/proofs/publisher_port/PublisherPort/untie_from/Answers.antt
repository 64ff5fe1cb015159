use Rattle.std.proofs.Common.{arith, length}
use Rattle.iox_domain_ports.proofs.Followings.{untying_none, untying_on, untying_over, untying_past}
use Rattle.iox_domain_ports.proofs.publisher_port.PublisherPort.untie_from.Goals as goal

pub loop-place-init : goal.loop-place-init
loop-place-init g c = untying_none _ _ _

pub loop-place-preserved : goal.loop-place-preserved
loop-place-preserved g c = untying_on _ _ _ _ (length c.args.self.now.ties.items) c.loop-place.place c.loop-place.invariant
    (omega (arith, c.loop-place-test.true, c.len-place-end.ensures)) c.untie.ensures.untied c.untie.ensures.same

pub returns-then-top-place-clause-untied : goal.returns-then-top-place-clause-untied
returns-then-top-place-clause-untied g c = untying_past _ _ _ (length c.args.self.now.ties.items) c.loop-place.place
    c.loop-place.invariant (λ other past. c.top.ensures.none other (omega (arith, past, c.if-top-place.true)))

pub returns-then-top-place-clause-same : goal.returns-then-top-place-clause-same
returns-then-top-place-clause-same g c = c.loop-place.invariant.only

pub returns-clause-untied : goal.returns-clause-untied
returns-clause-untied g c = untying_over _ _ _ (length c.args.self.now.ties.items) c.loop-place.place c.loop-place.invariant
    (omega (arith, c.loop-place-test.false, c.len-place-end.ensures))

pub returns-clause-same : goal.returns-clause-same
returns-clause-same g c = c.loop-place.invariant.only
