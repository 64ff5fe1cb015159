use Rattle.iox_hub.specs.DescribeBase.declared.type_detail.TypeVariant.TheVariants.{Dynamic}
use Rattle.iox_hub.specs.Delivery.declared.port_id.PortId.{PortId}
use Rattle.std.proofs.Common.{◌∙◌, Some, ap, rules, sym}
use Rattle.example_bus.proofs.joined.put.Goals as goal

pub returns-clause-puts : goal.returns-clause-puts
returns-clause-puts g c = λ handed.
    (c.typed_publisher_calls_are_steps.ensures handed g.B.PublisherHandlers.fixed g.D.SubscriberHandler.fixed Dynamic).send_slice
    c.args.number c.of_port-publisher.result.port c.args.values.now c.args.hub.now c.send_slice.new.home c.send_slice.result
    (sym c.publisher.ensures ∙ c.in_ok-port.was ∙ ap (λ (id : PortId). Some id) (sym c.of_port-publisher.ensures.port))
    (search rules) c.send_slice.ensures
