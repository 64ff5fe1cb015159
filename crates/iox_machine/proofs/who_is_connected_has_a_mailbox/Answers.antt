use Rattle.iox_machine.specs.Choices.{chosen_by}
use Rattle.iox_machine.proofs.Listed.{connected-are-joined}
use Rattle.iox_machine.proofs.who_is_connected_has_a_mailbox.Goals as goal

pub returns : goal.returns
returns g c = λ handed. connected-are-joined (chosen_by (λ value. g.T.Default.is_default value) (λ who. g.B.Decides.decides who)
    (λ who. g.B.Degrades.degrades who) (λ who. g.D.Degrades.degrades who) handed)
