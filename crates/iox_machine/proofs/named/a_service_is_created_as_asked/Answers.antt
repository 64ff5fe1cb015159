use Rattle.iox_machine.specs.Choices.{chosen_by}
use Rattle.iox_machine.proofs.Defaults.{creates-as-asked}
use Rattle.iox_machine.proofs.named.a_service_is_created_as_asked.Goals as goal

pub returns : goal.returns
returns g c = λ handed. creates-as-asked (chosen_by (λ value. g.T.Default.is_default value) (λ who. g.B.Decides.decides who)
    (λ who. g.B.Degrades.degrades who) (λ who. g.D.Degrades.degrades who) handed)
