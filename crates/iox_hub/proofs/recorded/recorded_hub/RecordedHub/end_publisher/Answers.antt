use Rattle.iox_hub.proofs.RecordedRuns.{for_all, for_one, publisher_ended}
use Rattle.iox_hub_commands.specs.DescribeBase.declared.type_detail.TypeVariant.TheVariants.{Dynamic}
use Rattle.std.proofs.Common.{is_ok, refl}
use Rattle.iox_command.specs.declared.command.Command.TheVariants as command
use Rattle.iox_command.specs.declared.port.PortNumber.TheVariants as port
use Rattle.iox_hub_commands.specs.Tables.{without_publisher}
use Rattle.iox_hub.proofs.RecordedTold.{handed_back, left_so}
use Rattle.iox_hub.proofs.recorded.recorded_hub.RecordedHub.end_publisher.Goals as goal

pub invariant_of-self : goal.invariant_of-self
invariant_of-self g c = rw (c.told-self-inside.ensures, c.has_left-gone.ensures)
    (for_all _ (λ handed. publisher_ended _ refl handed (c.typed_calls_are_a_run.ensures.goes_on handed g.B.PublisherHandlers.fixed
    g.D.SubscriberHandler.fixed
    Dynamic)
    (c.typed_publisher_calls_are_steps.ensures handed g.B.PublisherHandlers.fixed g.D.SubscriberHandler.fixed Dynamic).leave
    c.self.inside.history.calls c.self.inside.hub c.drop_with-left.new.home c.args.publisher.number.value c.args.publisher.it.port
    (is_ok c.drop_with-left.result)
    (rw (← c.self.view_is) at c.requires) c.drop_with-left.ensures.ends (for_one _ c.self.invariant handed)))

pub returns-clause-left : goal.returns-clause-left
returns-clause-left g c = rw (c.back_with_number.ensures, ← c.self.view_is, c.told-self-inside.ensures, c.has_left-gone.ensures)
    (left_so c.self.inside.history.calls c.args.publisher.number (command.Leave (port.Publisher c.args.publisher.number.value))
    (without_publisher c.args.publisher.number.value) c.drop_with-left.result)

pub returns-clause-back : goal.returns-clause-back
returns-clause-back g c = rw (c.back_with_number.ensures, c.drop_with-left.ensures.left)
    (handed_back c.args.publisher.number c.args.publisher.it _)
