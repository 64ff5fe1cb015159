use Rattle.iox_machine.specs.Choices.{chosen_by}
use Rattle.iox_machine.proofs.PortReplies.{looks-answer-as-updates}
use Rattle.iox_machine.proofs.replies.a_look_is_refused_as_an_update.Goals as goal

pub returns : goal.returns
returns g c = λ handed. looks-answer-as-updates (chosen_by (λ value. g.T.Default.is_default value) (λ who. g.B.Decides.decides who)
    (λ who. g.B.Degrades.degrades who) (λ who. g.D.Degrades.degrades who) handed)
