use Rattle.iox_domain_ports.proofs.Sweeping.{swept_on}
use Rattle.iox_domain_ports.proofs.subscriber_port.SubscriberPort.sweep.Goals as goal

pub loop-done-preserved : goal.loop-done-preserved
loop-done-preserved g c = swept_on c.args.count _ c.loop-done.self c.sweep_at-place.new.self c.loop-done.publishers
    c.sweep_at-place.new.publishers c.loop-done.place c.sweep_at-place.result c.loop-done._done
    c.loop-done.invariant c.loop-done-test.true c.sweep_at-place.ensures
