use Rattle.iox_machine.specs.Choices.{chosen_by}
use Rattle.iox_machine.proofs.Undelivered.{undelivered-leaves}
use Rattle.iox_machine.proofs.an_undelivered_send_went_to_all_others.Goals as goal

pub returns : goal.returns
returns g c = λ handed. undelivered-leaves (chosen_by (λ value. g.T.Default.is_default value) (λ who. g.B.Decides.decides who)
    (λ who. g.B.Degrades.degrades who) (λ who. g.D.Degrades.degrades who) handed)
