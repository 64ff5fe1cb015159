use Rattle.std.proofs.Common.{refl}
use Rattle.iox_hub_commands.specs.DescribeBase.declared.type_detail.TypeVariant.TheVariants.{Dynamic}
use Rattle.iox_hub.proofs.RecordedLoans.{sample_back, sample_waits, sends_so, sent_recorded}
use Rattle.iox_hub.proofs.RecordedRuns.{for_all, for_one}
use Rattle.iox_hub.proofs.recorded.recorded_hub.RecordedHub.send.Goals as goal

pub invariant_of-self : goal.invariant_of-self
invariant_of-self g c = rw (c.told-self-inside.ensures, c.sent_came-came.ensures, c.has_left-gone.ensures)
    (for_all _ (λ handed. sent_recorded _ refl handed (c.typed_calls_are_a_run.ensures.goes_on handed g.B.PublisherHandlers.fixed
    g.D.SubscriberHandler.fixed
    Dynamic)
    (c.typed_publisher_calls_are_steps.ensures handed g.B.PublisherHandlers.fixed g.D.SubscriberHandler.fixed Dynamic).send
    c.self.inside.history.calls c.self.inside.hub c.send_if-answer.new.home c.args.sample.number.value c.args.sample.it
    c.send_if-answer.result (rw (← c.self.view_is) at c.requires) c.send_if-answer.ensures (for_one _ c.self.invariant handed)))

pub returns-clause-sent : goal.returns-clause-sent
returns-clause-sent g c = rw (
  c.back_with_number.ensures,
  ← c.self.view_is,
  c.told-self-inside.ensures,
  c.sent_came-came.ensures,
  c.has_left-gone.ensures,
)
    (sends_so c.self.inside.history.calls c.args.sample.number c.send_if-answer.result)

pub returns-clause-back : goal.returns-clause-back
returns-clause-back g c = rw c.back_with_number.ensures
    (sample_back (λ handlers. g.B.Degrades.degrades handlers) (λ handlers. g.B.Decides.decides handlers) c.args.sample
    c.self.inside.hub c.send_if-answer.new.home c.send_if-answer.result c.send_if-answer.ensures)

pub returns-clause-waits : goal.returns-clause-waits
returns-clause-waits g c = rw c.back_with_number.ensures
    (sample_waits (λ handlers. g.B.Degrades.degrades handlers) (λ handlers. g.B.Decides.decides handlers) c.args.sample
    c.self.inside.hub c.send_if-answer.new.home c.send_if-answer.result c.send_if-answer.ensures)
