use Rattle.iox_machine.specs.Choices.{chosen_by}
use Rattle.iox_machine.proofs.Left.{others-left}
use Rattle.iox_machine.proofs.services_are_beside_one_another.Goals as goal

pub returns : goal.returns
returns g c = λ handed. others-left (chosen_by (λ value. g.T.Default.is_default value) (λ who. g.B.Decides.decides who)
    (λ who. g.B.Degrades.degrades who) (λ who. g.D.Degrades.degrades who) handed)
