use Rattle.std.proofs.Common.{sym}
use Rattle.iox_hub_commands.proofs.Coming.{subscriber_comes}
use Rattle.iox_hub.proofs.Coming.{subscriber_taken, one_named}
use Rattle.iox_hub.proofs.making.subscriber.Goals as goal

pub returns-clause-takes : goal.returns-clause-takes
returns-clause-takes g c =
    let handler = c.in-Some-take_degradation.handler in
    let makes = subscriber_comes (λ action. handler) (λ handler. g.D.Degrades.degrades handler) _ c.in-Some.place.0 c.in-Some.place.1
    c.args.options.now c.args.hub.now
    c.subscriber_with.new.self c.subscriber_with.result c.in-Some.ensures.found c.subscriber_with.ensures.comes.0
    c.subscriber_with.ensures.comes.1 in
    subscriber_taken (λ handler. g.D.Degrades.degrades handler) _ handler _ c.args.factory c.args.options.now _
    (c.args.hub.now, c.args.given.now.places.items) (c.subscriber_with.new.self, c.take_degradation.new.self.places.items)
    c.subscriber_with.result
    (one_named _ handler c.in-Some-take_degradation.ensures.was) (sym c.in-Some.ensures.here) makes c.take_degradation.ensures.left
