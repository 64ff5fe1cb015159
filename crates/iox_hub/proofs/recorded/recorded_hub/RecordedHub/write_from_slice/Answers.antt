use Rattle.std.proofs.Common.{refl}
use Rattle.iox_command.specs.declared.command.Command.TheVariants as command
use Rattle.iox_hub_commands.specs.DescribeBase.declared.type_detail.TypeVariant.TheVariants.{Dynamic}
use Rattle.iox_hub.proofs.RecordedLoans.{filled_recorded, filled_so}
use Rattle.iox_hub.proofs.RecordedRuns.{for_all, for_one}
use Rattle.iox_hub.proofs.recorded.recorded_hub.RecordedHub.write_from_slice.Goals as goal

pub invariant_of-self : goal.invariant_of-self
invariant_of-self g c = rw c.told_filled-self-inside.ensures
    (for_all _ (λ handed. filled_recorded _ refl handed (c.typed_calls_are_a_run.ensures.goes_on handed g.B.PublisherHandlers.fixed
    g.D.SubscriberHandler.fixed
    Dynamic)
    (c.typed_publisher_calls_are_steps.ensures handed g.B.PublisherHandlers.fixed g.D.SubscriberHandler.fixed Dynamic).write
    c.self.inside.history.calls c.self.inside.hub c.write_all-filled.new.home c.args.loan.number.value
    (record { port = c.args.loan.it.port; slot = c.args.loan.it.slot }) c.args.values.now c.write_all-filled.result.1
    (rw (← c.self.view_is) at c.requires.made) c.write_all-filled.ensures.writes c.write_all-filled.ensures.told (for_one _
    c.self.invariant handed)))

pub returns-clause-written : goal.returns-clause-written
returns-clause-written g c = rw (← c.self.view_is, c.told_filled-self-inside.ensures)
    (filled_so (command.Fill c.args.loan.number.value c.args.values.now) c.self.inside.history.calls c.write_all-filled.result.1)
