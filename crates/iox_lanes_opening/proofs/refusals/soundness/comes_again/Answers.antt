use Rattle.std.proofs.Common.{arith, sym}
use Rattle.iox_domain.specs.DomainPorts.Subscribing.{attached_at}
use Rattle.iox_lanes_opening.specs.Soundness.{share_publisher}
use Rattle.iox_lanes_opening.proofs.Again.{any_at, none_all, none_next}
use Rattle.iox_lanes_opening.proofs.refusals.soundness.comes_again.Goals as goal

pub returns-then-share_publisher : goal.returns-then-share_publisher
returns-then-share_publisher c
    = sym (any_at (λ other. share_publisher (attached_at other c.args.port.now) (attached_at c.args.key c.args.port.now))
    c.args.key c.loop-other.other (omega (arith, c.loop-other-test.true)) (cc))

pub loop-other-preserved : goal.loop-other-preserved
loop-other-preserved c = none_next (λ other. share_publisher (attached_at other c.args.port.now) (attached_at c.args.key c.args.port.now))
    c.loop-other.other c.share_publisher.result c.loop-other.invariant (cc) c.if-share_publisher.false

pub returns : goal.returns
returns c = sym (none_all (λ other. share_publisher (attached_at other c.args.port.now) (attached_at c.args.key c.args.port.now))
    c.args.key c.loop-other.other (omega (arith, c.loop-other-test.false)) c.loop-other.invariant)
