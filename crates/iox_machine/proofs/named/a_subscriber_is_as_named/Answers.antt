use Rattle.iox_machine.specs.Choices.{chosen_by}
use Rattle.iox_machine.proofs.Naming.{subscribers-as-named}
use Rattle.iox_machine.proofs.named.a_subscriber_is_as_named.Goals as goal

pub returns : goal.returns
returns g c = λ handed. subscribers-as-named (chosen_by (λ value. g.T.Default.is_default value) (λ who. g.B.Decides.decides who)
    (λ who. g.B.Degrades.degrades who) (λ who. g.D.Degrades.degrades who) handed)
