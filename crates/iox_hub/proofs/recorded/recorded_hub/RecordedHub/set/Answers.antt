use Rattle.std.proofs.Common.{refl}
use Rattle.iox_command.specs.declared.command.Command.TheVariants as command
use Rattle.iox_hub_commands.specs.DescribeBase.declared.type_detail.TypeVariant.TheVariants.{Dynamic}
use Rattle.iox_hub.proofs.RecordedLoans.{filled_so, set_recorded}
use Rattle.iox_hub.proofs.RecordedRuns.{for_all, for_one}
use Rattle.iox_hub.proofs.recorded.recorded_hub.RecordedHub.set.Goals as goal

pub invariant_of-self : goal.invariant_of-self
invariant_of-self g c = rw c.told-self-inside.ensures
    (for_all _ (λ handed. set_recorded _ refl handed (c.typed_calls_are_a_run.ensures.goes_on handed g.B.PublisherHandlers.fixed
    g.D.SubscriberHandler.fixed Dynamic)
    (c.typed_publisher_calls_are_steps.ensures handed g.B.PublisherHandlers.fixed g.D.SubscriberHandler.fixed Dynamic).change
    c.self.inside.history.calls c.self.inside.hub c.set_if-done.new.home c.args.sample.now.number.value c.args.place
    (record { port = c.args.sample.now.it.port; slot = c.args.sample.now.it.slot }) c.args.value c.set_if-done.result
    (rw (← c.self.view_is) at c.requires) c.set_if-done.ensures.answer c.set_if-done.ensures.home
    (for_one _ c.self.invariant handed)))

pub returns : goal.returns
returns g c = rw (← c.self.view_is, c.told-self-inside.ensures)
    (filled_so (command.Set c.args.sample.now.number.value c.args.place c.args.value) c.self.inside.history.calls c.set_if-done.result)
