use Rattle.iox_machine.specs.Choices.{chosen_by}
use Rattle.iox_machine.proofs.Acting.{creations-answer-meanwhile}
use Rattle.iox_machine.proofs.named.a_creation_is_answered_meanwhile.Goals as goal

pub returns : goal.returns
returns g c = λ handed. creations-answer-meanwhile (chosen_by (λ value. g.T.Default.is_default value) (λ who. g.B.Decides.decides who)
    (λ who. g.B.Degrades.degrades who) (λ who. g.D.Degrades.degrades who) handed)
