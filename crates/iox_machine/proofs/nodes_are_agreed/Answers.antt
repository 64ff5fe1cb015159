use Rattle.iox_machine.specs.Choices.{chosen_by}
use Rattle.iox_machine.proofs.Nodes.{nodes-are-agreed}
use Rattle.iox_machine.proofs.nodes_are_agreed.Goals as goal

pub returns : goal.returns
returns g c = λ handed. nodes-are-agreed (chosen_by (λ value. g.T.Default.is_default value) (λ who. g.B.Decides.decides who)
    (λ who. g.B.Degrades.degrades who) (λ who. g.D.Degrades.degrades who) handed)
