use Rattle.iox_machine.specs.Choices.{chosen_by}
use Rattle.iox_lanes_service.proofs.Dropping.{drops_are_steps}
use Rattle.iox_lanes_service.proofs.Lending.{loans_are_steps}
use Rattle.iox_lanes_service.proofs.Sending.{sends_are_steps}
use Rattle.iox_lanes_service.proofs.Writing.{writes_are_steps}
use Rattle.iox_lanes_service.proofs.publishers_take_steps.Goals as goal

pub returns-clause-drops : goal.returns-clause-drops
returns-clause-drops g c = λ handed. drops_are_steps (chosen_by (λ value. g.T.Default.is_default value)
    (λ who. g.B.Decides.decides who) (λ who. g.B.Degrades.degrades who) (λ who. g.D.Degrades.degrades who) handed)

pub returns-clause-writes : goal.returns-clause-writes
returns-clause-writes g c = λ handed. writes_are_steps (chosen_by (λ value. g.T.Default.is_default value)
    (λ who. g.B.Decides.decides who) (λ who. g.B.Degrades.degrades who) (λ who. g.D.Degrades.degrades who) handed)

pub returns-clause-sends : goal.returns-clause-sends
returns-clause-sends g c = λ handed. sends_are_steps (chosen_by (λ value. g.T.Default.is_default value)
    (λ who. g.B.Decides.decides who) (λ who. g.B.Degrades.degrades who) (λ who. g.D.Degrades.degrades who) handed)

pub returns-clause-loans : goal.returns-clause-loans
returns-clause-loans g c = λ handed. loans_are_steps (chosen_by (λ value. g.T.Default.is_default value)
    (λ who. g.B.Decides.decides who) (λ who. g.B.Degrades.degrades who) (λ who. g.D.Degrades.degrades who) handed)
