use Rattle.iox_machine.specs.Choices.{chosen_by}
use Rattle.iox_machine.proofs.Sized.{sizes-agreed}
use Rattle.iox_machine.proofs.sizes_are_agreed.Goals as goal

pub returns : goal.returns
returns g c = λ handed. sizes-agreed (chosen_by (λ value. g.T.Default.is_default value) (λ who. g.B.Decides.decides who)
    (λ who. g.B.Degrades.degrades who) (λ who. g.D.Degrades.degrades who) handed)
