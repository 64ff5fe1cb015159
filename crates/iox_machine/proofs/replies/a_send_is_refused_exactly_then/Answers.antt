use Rattle.iox_machine.specs.Choices.{chosen_by}
use Rattle.iox_machine.proofs.PortReplies.{sends-are-refused-so}
use Rattle.iox_machine.proofs.replies.a_send_is_refused_exactly_then.Goals as goal

pub returns : goal.returns
returns g c = λ handed. sends-are-refused-so (chosen_by (λ value. g.T.Default.is_default value) (λ who. g.B.Decides.decides who)
    (λ who. g.B.Degrades.degrades who) (λ who. g.D.Degrades.degrades who) handed)
