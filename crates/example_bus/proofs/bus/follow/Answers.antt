use Rattle.std.proofs.Common.{Ok}
use Rattle.iox_hub.specs.DescribeBase.declared.type_detail.TypeVariant.TheVariants.{Dynamic}
use Rattle.iox_hub.specs.Recorded.{all_handed}
use Rattle.example_bus.specs.Steps.{bus_terms}
use Rattle.example_bus.proofs.HeardBySteps.{followed}
use Rattle.example_bus.proofs.bus.follow.Goals as goal

pub returns : goal.returns
returns g c = λ held number there.
    (c.typed_publisher_calls_are_steps.ensures (all_handed (record {}) (record {})) (λ strategy action degrading. record {})
    (λ action. record {}) Dynamic).update
    number c.args.port (record held { hub = c.args.bus.now }) c.update_connections.new.home (Ok tt) there
    (followed (bus_terms g.T.ZeroCopySend.name g.T.ZeroCopySend.size g.T.ZeroCopySend.alignment g.T.Default.is_default)
    c.of_port-publisher.result.port c.args.port c.args.bus.now c.update_connections.new.home c.update_connections.result
    c.of_port-publisher.ensures.port c.in_ok-update_connections.was c.update_connections.ensures)
