use Rattle.iox_machine.specs.Choices.{chosen_by}
use Rattle.iox_machine.proofs.Updated.{subscriber-is-updated}
use Rattle.iox_machine.proofs.an_update_connects_a_subscriber.Goals as goal

pub returns : goal.returns
returns g c = λ handed. subscriber-is-updated (chosen_by (λ value. g.T.Default.is_default value) (λ who. g.B.Decides.decides who)
    (λ who. g.B.Degrades.degrades who) (λ who. g.D.Degrades.degrades who) handed)
