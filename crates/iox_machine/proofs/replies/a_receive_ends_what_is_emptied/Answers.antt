use Rattle.iox_machine.specs.Choices.{chosen_by}
use Rattle.iox_machine.proofs.Swept.{receives-end-emptied}
use Rattle.iox_machine.proofs.replies.a_receive_ends_what_is_emptied.Goals as goal

pub returns : goal.returns
returns g c = λ handed. receives-end-emptied (chosen_by (λ value. g.T.Default.is_default value) (λ who. g.B.Decides.decides who)
    (λ who. g.B.Degrades.degrades who) (λ who. g.D.Degrades.degrades who) handed)
