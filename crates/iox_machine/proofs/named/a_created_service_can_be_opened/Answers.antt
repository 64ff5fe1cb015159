use Rattle.iox_machine.specs.Choices.{chosen_by}
use Rattle.iox_machine.proofs.Reopened.{created-may-be-opened}
use Rattle.iox_machine.proofs.named.a_created_service_can_be_opened.Goals as goal

pub returns : goal.returns
returns g c = λ handed. created-may-be-opened (chosen_by (λ value. g.T.Default.is_default value) (λ who. g.B.Decides.decides who)
    (λ who. g.B.Degrades.degrades who) (λ who. g.D.Degrades.degrades who) handed)
