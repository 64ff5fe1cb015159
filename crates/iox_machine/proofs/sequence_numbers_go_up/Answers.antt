use Rattle.iox_machine.specs.Choices.{chosen_by}
use Rattle.iox_machine.proofs.Sequences.{sequences-go-up}
use Rattle.iox_machine.proofs.sequence_numbers_go_up.Goals as goal

pub returns : goal.returns
returns g c = λ handed. sequences-go-up (chosen_by (λ value. g.T.Default.is_default value) (λ who. g.B.Decides.decides who)
    (λ who. g.B.Degrades.degrades who) (λ who. g.D.Degrades.degrades who) handed)
