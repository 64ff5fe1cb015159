use Rattle.iox_machine.specs.Choices.{chosen_by}
use Rattle.iox_machine.proofs.Waiting.{receives-what-may-be-borrowed}
use Rattle.iox_machine.proofs.replies.a_receive_gives_what_may_be_borrowed.Goals as goal

pub returns : goal.returns
returns g c = λ handed. receives-what-may-be-borrowed (chosen_by (λ value. g.T.Default.is_default value) (λ who. g.B.Decides.decides who)
    (λ who. g.B.Degrades.degrades who) (λ who. g.D.Degrades.degrades who) handed)
