use Rattle.iox_hub.proofs.RecordedRuns.{for_all, for_one, node_recorded}
use Rattle.iox_hub_commands.specs.DescribeBase.declared.type_detail.TypeVariant.TheVariants.{Dynamic}
use Rattle.std.proofs.Common.{refl}
use Rattle.iox_hub.proofs.recorded.recorded_hub.RecordedHub.new_node.Goals as goal

pub invariant_of-self : goal.invariant_of-self
invariant_of-self g c = rw c.told-self-inside.ensures
    (for_all _ (λ handed. node_recorded _ refl handed (c.typed_calls_are_a_run.ensures.goes_on handed g.B.PublisherHandlers.fixed
    g.D.SubscriberHandler.fixed
    Dynamic)
    (c.typed_service_calls_are_steps.ensures handed g.B.PublisherHandlers.fixed g.D.SubscriberHandler.fixed Dynamic).node
    c.self.inside.history.calls c.self.inside.hub c.new_node-answer.new.self c.new_node-answer.result c.new_node-answer.ensures.node
    c.new_node-answer.ensures.rest
    (for_one _ c.self.invariant handed)))

pub returns-clause-node : goal.returns-clause-node
returns-clause-node g c = rw (← c.self.view_is, c.told-self-inside.ensures, c.new_node-answer.ensures.node) refl

pub returns-clause-here : goal.returns-clause-here
returns-clause-here g c = rw (c.told-self-inside.ensures, c.new_node-answer.ensures.node) c.self.invariant.id
