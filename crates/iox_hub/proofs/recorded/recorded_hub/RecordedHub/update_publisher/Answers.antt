use Rattle.std.proofs.Common.{refl}
use Rattle.iox_command.specs.declared.command.Command.TheVariants as command
use Rattle.iox_command.specs.declared.port.PortNumber.TheVariants as port
use Rattle.iox_hub.proofs.RecordedFollowing.{publisher_updated}
use Rattle.iox_hub.proofs.RecordedTold.{updated_so}
use Rattle.iox_hub_commands.specs.DescribeBase.declared.type_detail.TypeVariant.TheVariants.{Dynamic}
use Rattle.iox_hub.proofs.RecordedRuns.{for_all, for_one}
use Rattle.iox_hub.proofs.recorded.recorded_hub.RecordedHub.update_publisher.Goals as goal

pub invariant_of-self : goal.invariant_of-self
invariant_of-self g c = rw c.told-self-inside.ensures
    (for_all _ (λ handed. publisher_updated _ refl handed (c.typed_calls_are_a_run.ensures.goes_on handed g.B.PublisherHandlers.fixed
    g.D.SubscriberHandler.fixed
    Dynamic)
    (c.typed_publisher_calls_are_steps.ensures handed g.B.PublisherHandlers.fixed g.D.SubscriberHandler.fixed Dynamic).update
    c.self.inside.history.calls c.self.inside.hub c.update_publisher_if-answer.new.home c.args.publisher.now.number.value
    c.args.publisher.now.it.port
    c.update_publisher_if-answer.result (rw (← c.self.view_is) at c.requires) c.update_publisher_if-answer.ensures (for_one _
    c.self.invariant handed)))

pub returns : goal.returns
returns g c = rw (← c.self.view_is, c.told-self-inside.ensures)
    (updated_so c.self.inside.history.calls (command.Update (port.Publisher c.args.publisher.now.number.value))
    c.update_publisher_if-answer.result)
