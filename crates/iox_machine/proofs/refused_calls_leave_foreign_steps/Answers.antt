use Rattle.iox_machine.specs.Choices.{chosen_by}
use Rattle.iox_machine.proofs.Meanwhile.{refused-calls-leave-steps}
use Rattle.iox_machine.proofs.refused_calls_leave_foreign_steps.Goals as goal

pub returns : goal.returns
returns g c = λ handed. refused-calls-leave-steps (chosen_by (λ value. g.T.Default.is_default value) (λ who. g.B.Decides.decides who)
    (λ who. g.B.Degrades.degrades who) (λ who. g.D.Degrades.degrades who) handed)
