use Rattle.iox_machine.specs.Choices.{chosen_by}
use Rattle.iox_machine.proofs.PortReplies.{drops-end-loans}
use Rattle.iox_machine.proofs.replies.a_drop_ends_one_loan.Goals as goal

pub returns : goal.returns
returns g c = λ handed. drops-end-loans (chosen_by (λ value. g.T.Default.is_default value) (λ who. g.B.Decides.decides who)
    (λ who. g.B.Degrades.degrades who) (λ who. g.D.Degrades.degrades who) handed)
