use Rattle.std.proofs.Common.{rules, arith, ◌≡◌, length}
use Rattle.iox_domain_ports.proofs.Delivering.{going_on, waits, arrives, arrives_past}
use Rattle.iox_domain_ports.proofs.publisher_port.PublisherPort.go_on.Goals as goal

pub returns-then-top-place : goal.returns-then-top-place
returns-then-top-place g c =
    let count : c.len-count.result ≡ length c.args.self.now.ties.items = c.len-count.ensures in
    rw c.pass_all.ensures (rw count (arrives_past _ _ _ c.loop-place.place c.loop-place.invariant
    (omega (arith, c.loop-place-test.true, count))
    (λ other past. c.top.ensures.none other (omega (arith, past, c.if-top-place.true)))))

pub returns-then-not-step : goal.returns-then-not-step
returns-then-not-step g c = waits _ _ _ _ c.loop-place.place c.step.result c.loop-place.invariant
    (omega (arith, c.loop-place-test.true, c.len-count.ensures)) (search (rules, c.if-not-step.true)) c.step.ensures

pub loop-place-preserved : goal.loop-place-preserved
loop-place-preserved g c = going_on _ _ _ _ c.loop-place.place c.step.result c.loop-place.invariant
    (omega (arith, c.loop-place-test.true, c.len-count.ensures)) (search (rules, c.if-not-step.false)) c.step.ensures

pub returns : goal.returns
returns g c = arrives _ _ _ c.loop-place.place c.loop-place.invariant (omega (arith, c.loop-place-test.false, c.len-count.ensures))
