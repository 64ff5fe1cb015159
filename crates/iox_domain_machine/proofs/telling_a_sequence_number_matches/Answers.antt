use Rattle.iox_machine.specs.Choices.{chosen_by}
use Rattle.iox_domain_machine.proofs.Reading.{sequence_matches}
use Rattle.iox_domain_machine.proofs.telling_a_sequence_number_matches.Goals as goal

pub returns : goal.returns
returns g c = λ handed. sequence_matches _ _ (chosen_by (λ value. g.T.Default.is_default value) (λ who. g.B.Decides.decides who)
    (λ who. g.B.Degrades.degrades who) (λ who. g.D.Degrades.degrades who) handed)
