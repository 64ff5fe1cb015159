use Rattle.std.proofs.Common.{refl}
use Rattle.iox_hub.proofs.RecordedRuns.{for_all, for_one, give_up_recorded}
use Rattle.iox_hub_commands.specs.DescribeBase.declared.type_detail.TypeVariant.TheVariants.{Dynamic}
use Rattle.iox_command.specs.declared.command.Command.TheVariants as command
use Rattle.iox_hub.proofs.RecordedTold.{given_up_so}
use Rattle.iox_hub.proofs.recorded.recorded_hub.RecordedHub.give_up.Goals as goal

pub invariant_of-self : goal.invariant_of-self
invariant_of-self g c = rw c.told-self-inside.ensures
    (for_all _ (λ handed. give_up_recorded _ refl handed (c.typed_calls_are_a_run.ensures.goes_on handed g.B.PublisherHandlers.fixed
    g.D.SubscriberHandler.fixed
    Dynamic)
    (c.typed_publisher_calls_are_steps.ensures handed g.B.PublisherHandlers.fixed g.D.SubscriberHandler.fixed Dynamic).give_up
    c.self.inside.history.calls c.self.inside.hub c.give_up_if-answer.new.home c.args.publisher.now.number.value
    c.args.publisher.now.it.port c.give_up_if-answer.result (rw (← c.self.view_is) at c.requires.made)
    (rw c.requires.waits at c.give_up_if-answer.ensures) (for_one _ c.self.invariant handed)))

pub returns : goal.returns
returns g c = record {
  given_up = rw (← c.self.view_is, c.told-self-inside.ensures)
      (given_up_so (command.GiveUp c.args.publisher.now.number.value) c.self.inside.history.calls c.give_up_if-answer.result);
}
