use Rattle.std.proofs.Common.{refl}
use Rattle.iox_hub.proofs.RecordedRuns.{for_all, new_recorded}
use Rattle.iox_hub_commands.specs.DescribeBase.declared.type_detail.TypeVariant.TheVariants.{Dynamic}
use Rattle.iox_hub.proofs.recorded.recorded_hub.RecordedHub.new.Goals as goal

pub invariant_of-result : goal.invariant_of-result
invariant_of-result g c = rw c.told.ensures
    (for_all _ (λ handed. new_recorded _ refl handed (c.typed_calls_are_a_run.ensures.begins handed g.B.PublisherHandlers.fixed
    g.D.SubscriberHandler.fixed
    Dynamic) c.args.config c.new.result c.new.ensures))
