use Rattle.iox_machine.specs.Choices.{chosen_by}
use Rattle.iox_machine.proofs.Acting.{nodes-answer-so}
use Rattle.iox_machine.proofs.named.a_node_is_refused_for_memory_alone.Goals as goal

pub returns : goal.returns
returns g c = λ handed. nodes-answer-so (chosen_by (λ value. g.T.Default.is_default value) (λ who. g.B.Decides.decides who)
    (λ who. g.B.Degrades.degrades who) (λ who. g.D.Degrades.degrades who) handed)
