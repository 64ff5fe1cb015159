use Rattle.std.proofs.Common.{arith, ℕ, subst}
use Rattle.iox_domain_ports.specs.SubscriberUpdating.{FollowsNones}
use Rattle.iox_domain_ports.proofs.Walking.{clearing_on, cleared_past}
use Rattle.iox_domain_ports.proofs.subscriber_port.SubscriberPort.follow_nones.Goals as goal

pub loop-place-preserved : goal.loop-place-preserved
loop-place-preserved g c = clearing_on c.args.listed.now c.len-count.result c.args.self.now c.loop-place.self c.follow_if_none.new.self
    c.args.publishers.now c.loop-place.publishers c.follow_if_none.new.publishers
    c.loop-place.place c.loop-place.invariant (omega (arith, c.loop-place-test.true)) c.follow_if_none.ensures

pub returns-then-top-place : goal.returns-then-top-place
returns-then-top-place g c =
    subst (λ (count : ℕ). FollowsNones c.args.listed.now 0 count c.args.self.now c.args.publishers.now c.loop-place.self
    c.loop-place.publishers)
    c.len-count.ensures
    (cleared_past c.args.listed.now c.len-count.result c.args.self.now c.loop-place.self c.args.publishers.now c.loop-place.publishers
    c.loop-place.place c.loop-place.invariant (λ other past. c.top.ensures.none other (omega (arith, past, c.if-top-place.true))))
