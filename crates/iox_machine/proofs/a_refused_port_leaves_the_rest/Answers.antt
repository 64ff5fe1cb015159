use Rattle.iox_machine.specs.Choices.{chosen_by}
use Rattle.iox_machine.proofs.RefusedPorts.{refused-ports-leave}
use Rattle.iox_machine.proofs.a_refused_port_leaves_the_rest.Goals as goal

pub returns : goal.returns
returns g c = λ handed. refused-ports-leave (chosen_by (λ value. g.T.Default.is_default value) (λ who. g.B.Decides.decides who)
    (λ who. g.B.Degrades.degrades who) (λ who. g.D.Degrades.degrades who) handed)
