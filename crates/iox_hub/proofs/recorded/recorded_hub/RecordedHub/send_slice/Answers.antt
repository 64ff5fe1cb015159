use Rattle.std.proofs.Common.{refl}
use Rattle.iox_hub.proofs.RecordedRuns.{for_all, for_one, put_recorded}
use Rattle.iox_hub.proofs.RecordedTold.{put_waits, sent_so}
use Rattle.iox_command.specs.declared.command.Command.TheVariants as command
use Rattle.iox_hub_commands.specs.DescribeBase.declared.type_detail.TypeVariant.TheVariants.{Dynamic}
use Rattle.iox_hub.proofs.recorded.recorded_hub.RecordedHub.send_slice.Goals as goal

pub invariant_of-self : goal.invariant_of-self
invariant_of-self g c = rw c.told_put-self-inside.ensures
    (for_all _ (λ handed. put_recorded _ refl handed (c.typed_calls_are_a_run.ensures.goes_on handed g.B.PublisherHandlers.fixed
    g.D.SubscriberHandler.fixed
    Dynamic)
    (c.typed_publisher_calls_are_steps.ensures handed g.B.PublisherHandlers.fixed g.D.SubscriberHandler.fixed Dynamic).send_slice
    c.self.inside.history.calls c.self.inside.hub c.put_if-answer.new.home c.args.publisher.now.number.value c.args.publisher.now.it.port
    c.args.values.now c.put_if-answer.result (rw (← c.self.view_is) at c.requires) c.put_if-answer.ensures (for_one _
    c.self.invariant handed)))

pub returns-clause-sent : goal.returns-clause-sent
returns-clause-sent g c = rw (← c.self.view_is, c.told_put-self-inside.ensures)
    (sent_so c.self.inside.history.calls (command.Put c.args.publisher.now.number.value c.args.values.now) c.put_if-answer.result)

pub returns-clause-waits : goal.returns-clause-waits
returns-clause-waits g c = put_waits (λ handlers. g.B.Degrades.degrades handlers) (λ handlers. g.B.Decides.decides handlers)
    c.args.publisher.now.it.port c.args.values.now c.self.inside.hub c.put_if-answer.new.home _ c.put_if-answer.result
    c.put_if-answer.ensures
