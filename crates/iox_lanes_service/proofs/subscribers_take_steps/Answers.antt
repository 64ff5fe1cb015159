use Rattle.iox_machine.specs.Choices.{chosen_by}
use Rattle.iox_lanes_service.proofs.Reading.{numbers_are_told, reads_are_steps}
use Rattle.iox_lanes_service.proofs.Receiving.{receives_are_steps}
use Rattle.iox_lanes_service.proofs.Releasing.{releases_are_steps}
use Rattle.iox_lanes_service.proofs.subscribers_take_steps.Goals as goal

pub returns-clause-receives : goal.returns-clause-receives
returns-clause-receives g c = λ handed. receives_are_steps (chosen_by (λ value. g.T.Default.is_default value)
    (λ who. g.B.Decides.decides who) (λ who. g.B.Degrades.degrades who) (λ who. g.D.Degrades.degrades who) handed)

pub returns-clause-reads : goal.returns-clause-reads
returns-clause-reads g c = λ handed. reads_are_steps (chosen_by (λ value. g.T.Default.is_default value) (λ who. g.B.Decides.decides who)
    (λ who. g.B.Degrades.degrades who) (λ who. g.D.Degrades.degrades who) handed)

pub returns-clause-numbers : goal.returns-clause-numbers
returns-clause-numbers g c = λ handed. numbers_are_told (chosen_by (λ value. g.T.Default.is_default value)
    (λ who. g.B.Decides.decides who) (λ who. g.B.Degrades.degrades who) (λ who. g.D.Degrades.degrades who) handed)

pub returns-clause-releases : goal.returns-clause-releases
returns-clause-releases g c = λ handed. releases_are_steps (chosen_by (λ value. g.T.Default.is_default value)
    (λ who. g.B.Decides.decides who) (λ who. g.B.Degrades.degrades who) (λ who. g.D.Degrades.degrades who) handed)
