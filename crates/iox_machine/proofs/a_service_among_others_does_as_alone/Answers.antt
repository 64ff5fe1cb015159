use Rattle.iox_machine.specs.Choices.{chosen_by}
use Rattle.iox_machine.proofs.Among.{steps-among}
use Rattle.iox_machine.proofs.a_service_among_others_does_as_alone.Goals as goal

pub returns : goal.returns
returns g c = λ handed. steps-among (chosen_by (λ value. g.T.Default.is_default value) (λ who. g.B.Decides.decides who)
    (λ who. g.B.Degrades.degrades who) (λ who. g.D.Degrades.degrades who) handed)
