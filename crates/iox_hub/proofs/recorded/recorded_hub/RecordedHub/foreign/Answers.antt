use Rattle.std.proofs.Common.{refl}
use Rattle.iox_command.specs.declared.command.Command.TheVariants as command
use Rattle.iox_hub.proofs.RecordedServices.{foreign_recorded}
use Rattle.iox_hub.proofs.RecordedTold.{foreign_so}
use Rattle.iox_hub_commands.specs.DescribeBase.declared.type_detail.TypeVariant.TheVariants.{Dynamic}
use Rattle.iox_hub.proofs.RecordedRuns.{for_all, for_one}
use Rattle.iox_hub.proofs.recorded.recorded_hub.RecordedHub.foreign.Goals as goal

pub invariant_of-self : goal.invariant_of-self
invariant_of-self g c = rw c.told_foreign-self-inside.ensures
    (for_all _ (λ handed. foreign_recorded _ refl handed (c.typed_calls_are_a_run.ensures.goes_on handed g.B.PublisherHandlers.fixed
    g.D.SubscriberHandler.fixed
    Dynamic)
    c.self.inside.history.calls c.self.inside.hub c.foreign-answer.new.hub c.args.pattern c.args.name c.args.steps.now
    c.foreign-answer.result c.foreign-answer.ensures (for_one _ c.self.invariant handed)))

pub returns : goal.returns
returns g c = rw (← c.self.view_is, c.told_foreign-self-inside.ensures)
    (foreign_so c.self.inside.history.calls (command.Foreign c.args.pattern c.args.name c.args.steps.now) c.foreign-answer.result)
