use Rattle.std.proofs.Common.{refl}
use Rattle.iox_hub.proofs.KeptNumbers.{samples_keep}
use Rattle.iox_hub.proofs.RecordedRuns.{for_all, for_one, receive_recorded, receives_some}
use Rattle.iox_hub.proofs.RecordedTold.{received_so, sample_goes_by}
use Rattle.iox_hub_commands.specs.DescribeBase.declared.type_detail.TypeVariant.TheVariants.{Dynamic}
use Rattle.iox_hub.proofs.recorded.recorded_hub.RecordedHub.receive.Goals as goal

pub invariant_of-self : goal.invariant_of-self
invariant_of-self g c = rw (c.told_received-self-inside.ensures, c.newest_is_known-self-inside.ensures)
    (for_all _ (λ handed. receive_recorded _ refl handed (c.typed_calls_are_a_run.ensures.goes_on handed g.B.PublisherHandlers.fixed
    g.D.SubscriberHandler.fixed
    Dynamic)
    (c.typed_subscriber_calls_are_steps.ensures handed g.B.PublisherHandlers.fixed g.D.SubscriberHandler.fixed Dynamic).receive
    (c.what_is_held_may_be_used.ensures handed g.B.PublisherHandlers.fixed g.D.SubscriberHandler.fixed Dynamic)
    c.self.inside.history.calls c.self.inside.hub c.receive_if-answer.new.home c.args.subscriber.now.number.value
    c.args.subscriber.now.it.port
    c.receive_if-answer.result (rw (← c.self.view_is) at c.requires) c.receive_if-answer.ensures (for_one _ c.self.invariant handed)))

pub returns-clause-received : goal.returns-clause-received
returns-clause-received g c = rw (c.received_with_number.ensures, ← c.self.view_is, c.told_received-self-inside.ensures)
    (received_so c.receive_if-answer.new.home c.args.subscriber.now.number.value c.self.inside.history.calls c.receive_if-answer.result
    c.given-number.result c.self.invariant.rise.4)

pub returns-clause-number : goal.returns-clause-number
returns-clause-number g c = rw (c.received_with_number.ensures, ← c.self.view_is, c.told_received-self-inside.ensures)
    (sample_goes_by c.receive_if-answer.new.home c.args.subscriber.now.number.value c.self.inside.history.calls c.receive_if-answer.result
    c.given-number.result c.given-number.ensures c.self.invariant.rise.4)

pub returns-clause-stands : goal.returns-clause-stands
returns-clause-stands g c = λ handed followed. rw c.received_with_number.ensures
    (receives_some _ refl handed (c.what_is_held_may_be_used.ensures handed g.B.PublisherHandlers.fixed g.D.SubscriberHandler.fixed Dynamic)
    c.self.inside.history.calls c.self.inside.hub c.receive_if-answer.new.home c.args.subscriber.now.number.value
    c.args.subscriber.now.it.port
    c.receive_if-answer.result c.given-number.result (rw (← c.self.view_is) at c.requires) c.receive_if-answer.ensures (for_one _
    c.self.invariant handed)
    (rw (← c.self.view_is) at followed))

pub returns-clause-others : goal.returns-clause-others
returns-clause-others g c = rw (← c.self.view_is, c.told_received-self-inside.ensures)
    (samples_keep c.self.inside.history.calls c.receive_if-answer.new.home c.args.subscriber.now.number.value c.receive_if-answer.result)
