use Rattle.std.proofs.Common.{refl}
use Rattle.iox_hub_commands.specs.DescribeBase.declared.type_detail.TypeVariant.TheVariants.{Dynamic}
use Rattle.iox_hub.proofs.RecordedLoans.{dropped_recorded}
use Rattle.iox_hub.proofs.RecordedRuns.{for_all, for_one}
use Rattle.iox_hub.proofs.recorded.recorded_hub.RecordedHub.drop_loan.Goals as goal

pub invariant_of-self : goal.invariant_of-self
invariant_of-self g c = rw c.told-self-inside.ensures
    (for_all _ (λ handed. dropped_recorded _ refl handed (c.typed_calls_are_a_run.ensures.goes_on handed g.B.PublisherHandlers.fixed
    g.D.SubscriberHandler.fixed
    Dynamic)
    (c.typed_publisher_calls_are_steps.ensures handed g.B.PublisherHandlers.fixed g.D.SubscriberHandler.fixed Dynamic).drop
    c.self.inside.history.calls c.self.inside.hub c.drop_loan_if.new.home c.args.loan.number.value
    (record { port = c.args.loan.it.port; slot = c.args.loan.it.slot }) (rw (← c.self.view_is) at c.requires) c.drop_loan_if.ensures
    (for_one _ c.self.invariant handed)))

pub returns : goal.returns
returns g c = rw (← c.self.view_is, c.told-self-inside.ensures) refl
