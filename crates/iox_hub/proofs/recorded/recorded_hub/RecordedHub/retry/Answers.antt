use Rattle.std.proofs.Common.{◌≡◌, IfOk, MatchResult, subst, refl}
use Rattle.iox_delivery.specs.declared.port_id.PortId.{PortId}
use Rattle.iox_hub.proofs.RecordedRuns.{for_all, for_one, retry_recorded}
use Rattle.iox_hub.proofs.RecordedTold.{WaitsAt, retry_waits, sent_so}
use Rattle.iox_command.specs.declared.command.Command.TheVariants as command
use Rattle.iox_hub_commands.specs.DescribeBase.declared.type_detail.TypeVariant.TheVariants.{Dynamic}
use Rattle.std.specs.Result.{result_ok}
use Rattle.iox_hub.proofs.recorded.recorded_hub.RecordedHub.retry.Goals as goal

pub invariant_of-self : goal.invariant_of-self
invariant_of-self g c = rw (c.told-self-inside.ensures, c.sent_came-came.ensures)
    (for_all _ (λ handed. retry_recorded _ refl handed (c.typed_calls_are_a_run.ensures.goes_on handed g.B.PublisherHandlers.fixed
    g.D.SubscriberHandler.fixed
    Dynamic)
    (c.typed_publisher_calls_are_steps.ensures handed g.B.PublisherHandlers.fixed g.D.SubscriberHandler.fixed Dynamic).retry
    c.self.inside.history.calls c.self.inside.hub c.retry_if-answer.new.home c.args.publisher.now.number.value c.args.elapsed_ns
    c.args.blocked.port c.args.blocked c.retry_if-answer.result (rw c.requires.waits (rw (← c.self.view_is) at c.requires.made))
    c.retry_if-answer.ensures (for_one _ c.self.invariant handed)))

pub returns-clause-sent : goal.returns-clause-sent
returns-clause-sent g c = rw (← c.self.view_is, c.told-self-inside.ensures, c.sent_came-came.ensures)
    (sent_so c.self.inside.history.calls (command.Retry c.args.publisher.now.number.value c.args.elapsed_ns)
    (result_ok c.retry_if-answer.result))

pub returns-clause-waits : goal.returns-clause-waits
returns-clause-waits g c = subst (λ (port : PortId). MatchResult c.retry_if-answer.result (λ it. IfOk it (λ came. WaitsAt port came))
    (λ back. back ≡ c.args.blocked)) c.requires.waits (retry_waits (λ handlers. g.B.Decides.decides handlers)
    c.args.blocked.port c.args.elapsed_ns c.args.blocked c.self.inside.hub c.retry_if-answer.new.home _ c.retry_if-answer.result
    c.retry_if-answer.ensures)
