use Rattle.std.proofs.Common.{◌≡◌}
use Rattle.std.specs.Prelude.{codes}
use Rattle.std.proofs.lemmas.Result.{IfOk-weaker}
use Rattle.iox_hub.specs.DescribeBase.declared.type_detail.TypeVariant.TheVariants.{Dynamic}
use Rattle.iox_hub.specs.Recorded.{all_handed}
use Rattle.example_bus.specs.Steps.{bus_terms}
use Rattle.example_bus.proofs.HeardBySteps.{hears_by_steps}
use Rattle.example_bus.proofs.bus.hear_on.Goals as goal

pub returns : goal.returns
returns c = IfOk-weaker c.hear.result _ _ (λ heard was held number there.
    hears_by_steps (bus_terms (codes "u64") 8 8 (λ value. value ≡ 0))
    (c.typed_subscriber_calls_are_steps.ensures (all_handed (record {}) (record {})) (λ strategy action degrading. record {})
    (λ action. record {}) Dynamic)
    c.args.port (record held { hub = c.args.bus.now }) was.1 c.hear.new.home heard was.0 number there was.2 was.3 was.4) c.hear.ensures
