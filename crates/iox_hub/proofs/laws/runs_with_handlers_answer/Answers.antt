use Rattle.iox_hub_commands.specs.Terms.{terms_of}
use Rattle.iox_hub.proofs.HandledAnswers.{runs_answer}
use Rattle.iox_hub.proofs.laws.runs_with_handlers_answer.Goals as goal

pub returns : goal.returns
returns g c = runs_answer (terms_of g.T.ZeroCopySend.name g.T.ZeroCopySend.size g.T.ZeroCopySend.alignment
    (λ value. g.T.Default.is_default value) g.U.ZeroCopySend.name g.U.ZeroCopySend.size g.U.ZeroCopySend.alignment
    (λ value. g.U.Default.is_default value) g.B.PublisherHandlers.fixed (λ handlers. g.B.Degrades.degrades handlers)
    (λ handlers. g.B.Decides.decides handlers) g.D.SubscriberHandler.fixed (λ handler. g.D.Degrades.degrades handler))
    (λ strategy action degrading at_full at_failure. g.B.TakesHandlers.handled strategy action degrading at_full at_failure)
    (λ handed. c.decided_runs_go_on.ensures handed) (λ handed. c.new_hub_begins.ensures handed)
    (λ handed. c.messages_are_short.ensures handed)
