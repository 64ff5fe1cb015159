use Rattle.iox_machine.specs.Choices.{chosen_by}
use Rattle.iox_machine.proofs.Failed.{subscriber-tells-first}
use Rattle.iox_machine.proofs.replies.a_failed_update_of_a_subscriber_tells_the_first_failure.Goals as goal

pub returns : goal.returns
returns g c = λ handed. subscriber-tells-first (chosen_by (λ value. g.T.Default.is_default value) (λ who. g.B.Decides.decides who)
    (λ who. g.B.Degrades.degrades who) (λ who. g.D.Degrades.degrades who) handed)
