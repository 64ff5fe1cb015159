use Rattle.iox_machine.specs.Choices.{chosen_by}
use Rattle.iox_machine.proofs.Alone.{as-if-alone}
use Rattle.iox_machine.proofs.a_service_is_as_if_alone.Goals as goal

pub returns : goal.returns
returns g c = λ handed. as-if-alone (chosen_by (λ value. g.T.Default.is_default value) (λ who. g.B.Decides.decides who)
    (λ who. g.B.Degrades.degrades who) (λ who. g.D.Degrades.degrades who) handed)
