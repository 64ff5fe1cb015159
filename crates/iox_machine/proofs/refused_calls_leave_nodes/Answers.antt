use Rattle.iox_machine.specs.Choices.{chosen_by}
use Rattle.iox_machine.proofs.Unmoved.{refused-calls-leave-nodes}
use Rattle.iox_machine.proofs.refused_calls_leave_nodes.Goals as goal

pub returns : goal.returns
returns g c = λ handed. refused-calls-leave-nodes (chosen_by (λ value. g.T.Default.is_default value) (λ who. g.B.Decides.decides who)
    (λ who. g.B.Degrades.degrades who) (λ who. g.D.Degrades.degrades who) handed)
