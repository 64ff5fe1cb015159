use Rattle.iox_machine.specs.Choices.{chosen_by}
use Rattle.iox_lanes_service.proofs.Beginning.{new_lanes_stand}
use Rattle.iox_lanes_service.proofs.new_lanes_stand.Goals as goal

pub returns : goal.returns
returns g c = λ handed. new_lanes_stand (chosen_by (λ value. g.T.Default.is_default value) (λ who. g.B.Decides.decides who)
    (λ who. g.B.Degrades.degrades who) (λ who. g.D.Degrades.degrades who) handed)
