use Rattle.iox_machine.specs.Choices.{chosen_by}
use Rattle.iox_machine.proofs.Opened.{opened-meets-asked}
use Rattle.iox_machine.proofs.what_is_opened_is_as_asked.Goals as goal

pub returns : goal.returns
returns g c = λ handed. opened-meets-asked (chosen_by (λ value. g.T.Default.is_default value) (λ who. g.B.Decides.decides who)
    (λ who. g.B.Degrades.degrades who) (λ who. g.D.Degrades.degrades who) handed)
