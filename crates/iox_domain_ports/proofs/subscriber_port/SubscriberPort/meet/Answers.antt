use Rattle.std.proofs.Common.{arith, ◌≡◌, get_or}
use Rattle.std.proofs.lemmas.Option.{unwrap_or-slice_get}
use Rattle.iox_domain_ports.proofs.Asking.{met_on}
use Rattle.iox_domain_ports.proofs.subscriber_port.SubscriberPort.meet.Goals as goal

pub loop-place-preserved : goal.loop-place-preserved
loop-place-preserved g c =
    let here : c.unwrap_or-key.result ≡ get_or c.args.self.now.expired.items c.loop-place.place 0
    = cc (unwrap_or-slice_get c.args.self.now.expired.items c.loop-place.place 0) in
    met_on c.args.self.now c.args.publishers.now c.loop-place.place c.unwrap_or-key.result c.loop-place.idle c.loop-place.unread
    c.first_of-idle.result c.first_of-unread.result c.asked-asked.result.gives c.asked-asked.result.idle c.asked-asked.result.data
    c.loop-place.invariant here (omega (arith, c.loop-place-test.true)) c.asked-asked.ensures.gives c.if-asked.false
    c.asked-asked.ensures.data c.asked-asked.ensures.idle c.first_of-idle.ensures c.first_of-unread.ensures
