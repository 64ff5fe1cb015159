use Rattle.iox_machine.specs.Choices.{chosen_by}
use Rattle.iox_domain_machine.proofs.UpdateMatches.{subscriber_update_matches}
use Rattle.iox_domain_machine.proofs.updating_a_subscriber_matches.Goals as goal

pub returns : goal.returns
returns g c = λ handed. subscriber_update_matches _ _ (chosen_by (λ value. g.T.Default.is_default value) (λ who. g.B.Decides.decides who)
    (λ who. g.B.Degrades.degrades who) (λ who. g.D.Degrades.degrades who) handed) _
