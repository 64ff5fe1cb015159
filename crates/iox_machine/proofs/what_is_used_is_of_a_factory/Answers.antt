use Rattle.iox_machine.specs.Choices.{chosen_by}
use Rattle.iox_machine.proofs.LenderSteps.{use-is-owned}
use Rattle.iox_machine.proofs.what_is_used_is_of_a_factory.Goals as goal

pub returns : goal.returns
returns g c = λ handed. use-is-owned (chosen_by (λ value. g.T.Default.is_default value) (λ who. g.B.Decides.decides who)
    (λ who. g.B.Degrades.degrades who) (λ who. g.D.Degrades.degrades who) handed)
