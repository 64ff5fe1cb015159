use Rattle.std.proofs.Common.{◌∙◌, sym, refl}
use Rattle.std.specs.Result.{result_map_both}
use Rattle.iox_hub.proofs.RecordedServices.{closed_recorded}
use Rattle.iox_hub.proofs.RecordedTold.{closed_so, closes_back}
use Rattle.iox_hub_base.specs.Closing.{in_use}
use Rattle.iox_hub_commands.specs.DescribeBase.declared.type_detail.TypeVariant.TheVariants.{Dynamic}
use Rattle.iox_hub_commands.specs.declared.services.made.MadeFactory.TheVariants as made_factory
use Rattle.iox_hub.proofs.RecordedRuns.{for_all, for_one}
use Rattle.iox_hub.proofs.recorded.recorded_hub.RecordedHub.close.Goals as goal

pub invariant_of-self : goal.invariant_of-self
invariant_of-self g c = rw c.told-self-inside.ensures
    (for_all _ (λ handed. closed_recorded _ refl handed (c.typed_calls_are_a_run.ensures.goes_on handed g.B.PublisherHandlers.fixed
    g.D.SubscriberHandler.fixed
    Dynamic)
    (c.typed_closes_are_steps.ensures handed g.B.PublisherHandlers.fixed g.D.SubscriberHandler.fixed Dynamic)
    c.self.inside.history.calls c.self.inside.hub c.close-closed.new.self c.args.factory.number.value
    (made_factory.PublishSubscribe c.args.factory.it) c.args.factory.it
    (result_map_both (λ done. done) (λ refused. (refused.error, refused.factory)) c.close-closed.result)
    (rw (← c.self.view_is) at c.requires.made) c.close-closed.ensures (for_one _ c.self.invariant handed)))

pub returns : goal.returns
returns g c = rw (c.closed_with_number.ensures, ← c.self.view_is, c.told-self-inside.ensures)
    (closed_so c.self.inside.history.calls c.args.factory
    (result_map_both (λ done. done) (λ refused. (refused.error, refused.factory)) c.close-closed.result)
    (closes_back (in_use c.args.factory.it.service.membership.service.number c.args.factory.it.owner c.self.inside.hub)
    c.args.factory.it.service.membership c.args.factory.it c.self.inside.hub c.close-closed.new.self _ c.close-closed.ensures))

pub close-closed-requires : goal.close-closed-requires
close-closed-requires g c = (rw (← c.self.view_is) at c.requires.here) ∙ sym c.self.invariant.id
