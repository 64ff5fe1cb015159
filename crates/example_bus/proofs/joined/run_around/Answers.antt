use Rattle.example_bus.specs.Joined.{number_terms}
use Rattle.example_bus.proofs.JoinedRuns.{are_joined}
use Rattle.example_bus.proofs.joined.run_around.Goals as goal

pub returns : goal.returns
returns g c = λ config is_new whole wholly.
    are_joined (number_terms g.B.PublisherHandlers.fixed (λ handlers. g.B.Degrades.degrades handlers)
    (λ handlers. g.B.Decides.decides handlers) g.D.SubscriberHandler.fixed (λ handler. g.D.Degrades.degrades handler))
    (λ strategy action degrading at_full at_failure. g.B.TakesHandlers.handled strategy action degrading at_full at_failure)
    c.two_runs_are_one.ensures c.new_hub_begins.ensures config c.args.hub.now c.run-replied.new.hub c.put-sent.new.hub c.run.new.hub
    c.args.first.items c.args.second.items c.args.at_first.now.places.items c.args.at_second.now.places.items
    c.run-replied.result.replies.items c.run.result.replies.items c.run-replied.result.stopped c.run.result.stopped c.args.number
    c.args.values.now c.put-sent.result is_new whole wholly c.run-replied.ensures.joins c.put-sent.ensures.puts c.run.ensures.joins
