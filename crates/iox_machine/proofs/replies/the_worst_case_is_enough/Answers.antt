use Rattle.iox_machine.specs.Choices.{chosen_by}
use Rattle.iox_machine.proofs.WorstCase.{worst-case-is-enough}
use Rattle.iox_machine.proofs.replies.the_worst_case_is_enough.Goals as goal

pub returns : goal.returns
returns g c = λ handed. worst-case-is-enough (chosen_by (λ value. g.T.Default.is_default value) (λ who. g.B.Decides.decides who)
    (λ who. g.B.Degrades.degrades who) (λ who. g.D.Degrades.degrades who) handed)
