use Rattle.iox_machine.specs.Choices.{chosen_by}
use Rattle.iox_domain_machine.proofs.Services.{among_others}
use Rattle.iox_domain_machine.proofs.a_domain_among_others_matches.Goals as goal
use Rattle.iox_machine.proofs.Among.{steps-among}

pub returns : goal.returns
returns g c = λ handed. among_others _ _ (chosen_by (λ value. g.T.Default.is_default value) (λ who. g.B.Decides.decides who)
    (λ who. g.B.Degrades.degrades who) (λ who. g.D.Degrades.degrades who) handed)
    (steps-among (chosen_by (λ value. g.T.Default.is_default value) (λ who. g.B.Decides.decides who)
    (λ who. g.B.Degrades.degrades who) (λ who. g.D.Degrades.degrades who) handed))
