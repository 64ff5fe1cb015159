use Rattle.iox_machine.specs.Choices.{chosen_by}
use Rattle.iox_machine.proofs.Spent.{loans-are-spent-once}
use Rattle.iox_machine.proofs.loans_are_spent_once.Goals as goal

pub returns : goal.returns
returns g c = λ handed. loans-are-spent-once (chosen_by (λ value. g.T.Default.is_default value) (λ who. g.B.Decides.decides who)
    (λ who. g.B.Degrades.degrades who) (λ who. g.D.Degrades.degrades who) handed)
