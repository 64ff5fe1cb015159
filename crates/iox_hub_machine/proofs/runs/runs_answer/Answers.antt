use Rattle.std.proofs.Common.{None}
use Rattle.iox_hub_base.specs.DescribeBase.declared.type_detail.TypeVariant.TheVariants.{Dynamic}
use Rattle.iox_hub_machine.proofs.AllCommands.{commands_answer}
use Rattle.iox_hub_machine.proofs.runs.runs_answer.Goals as goal
use Rattle.iox_hub_commands.specs.Terms.{terms_of}

pub returns : goal.returns
returns g c = commands_answer Dynamic (terms_of g.T.ZeroCopySend.name g.T.ZeroCopySend.size g.T.ZeroCopySend.alignment
    (λ value. g.T.Default.is_default value) g.U.ZeroCopySend.name g.U.ZeroCopySend.size g.U.ZeroCopySend.alignment
    (λ header. g.U.Default.is_default header) g.B.PublisherHandlers.fixed (λ handlers. g.B.Degrades.degrades handlers)
    (λ handlers. g.B.Decides.decides handlers) g.D.SubscriberHandler.fixed (λ handler. g.D.Degrades.degrades handler))
    (c.messages_are_short.ensures (record { publishers = λ number. None; subscribers = λ number. None }))
