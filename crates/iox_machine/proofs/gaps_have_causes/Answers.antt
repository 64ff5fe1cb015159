use Rattle.iox_machine.specs.Choices.{chosen_by}
use Rattle.iox_machine.proofs.CauseLaws.{gaps-have-causes}
use Rattle.iox_machine.proofs.gaps_have_causes.Goals as goal

pub returns : goal.returns
returns g c = λ handed. gaps-have-causes (chosen_by (λ value. g.T.Default.is_default value) (λ who. g.B.Decides.decides who)
    (λ who. g.B.Degrades.degrades who) (λ who. g.D.Degrades.degrades who) handed)
