use Rattle.iox_machine.specs.Choices.{chosen_by}
use Rattle.iox_machine.proofs.Called.{creations-answer-so}
use Rattle.iox_machine.proofs.replies.a_creation_is_answered_by_the_phase.Goals as goal

pub returns : goal.returns
returns g c = λ handed. creations-answer-so (chosen_by (λ value. g.T.Default.is_default value) (λ who. g.B.Decides.decides who)
    (λ who. g.B.Degrades.degrades who) (λ who. g.D.Degrades.degrades who) handed)
