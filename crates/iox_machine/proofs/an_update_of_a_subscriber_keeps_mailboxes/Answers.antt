use Rattle.iox_machine.specs.Choices.{chosen_by}
use Rattle.iox_machine.proofs.Through.{subscriber-keeps-mailboxes}
use Rattle.iox_machine.proofs.an_update_of_a_subscriber_keeps_mailboxes.Goals as goal

pub returns : goal.returns
returns g c = λ handed. subscriber-keeps-mailboxes (chosen_by (λ value. g.T.Default.is_default value) (λ who. g.B.Decides.decides who)
    (λ who. g.B.Degrades.degrades who) (λ who. g.D.Degrades.degrades who) handed)
