use Rattle.iox_machine.specs.Choices.{chosen_by}
use Rattle.iox_lanes_service.proofs.Chaining.{turns_are_runs}
use Rattle.iox_lanes_service.proofs.turns_are_a_run.Goals as goal

pub returns : goal.returns
returns g c = λ handed. turns_are_runs (chosen_by (λ value. g.T.Default.is_default value)
    (λ who. g.B.Decides.decides who) (λ who. g.B.Degrades.degrades who) (λ who. g.D.Degrades.degrades who) handed)
