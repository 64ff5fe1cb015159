use Rattle.iox_machine.specs.Choices.{chosen_by}
use Rattle.iox_domain_machine.proofs.GivingUp.{give_up_matches}
use Rattle.iox_domain_machine.proofs.giving_up_a_send_matches.Goals as goal

pub returns : goal.returns
returns g c = λ handed. give_up_matches _ _ (chosen_by (λ value. g.T.Default.is_default value) (λ who. g.B.Decides.decides who)
    (λ who. g.B.Degrades.degrades who) (λ who. g.D.Degrades.degrades who) handed)
