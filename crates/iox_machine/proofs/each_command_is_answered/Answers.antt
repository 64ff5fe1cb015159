use Rattle.iox_machine.specs.Choices.{chosen_by}
use Rattle.iox_machine.proofs.Gone.{each-is-answered}
use Rattle.iox_machine.proofs.each_command_is_answered.Goals as goal

pub returns : goal.returns
returns g c = λ handed. each-is-answered (chosen_by (λ value. g.T.Default.is_default value) (λ who. g.B.Decides.decides who)
    (λ who. g.B.Degrades.degrades who) (λ who. g.D.Degrades.degrades who) handed)
