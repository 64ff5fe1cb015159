use Rattle.iox_machine.specs.Choices.{chosen_by}
use Rattle.iox_negotiate_machine.proofs.Acted.{command-matches}
use Rattle.iox_negotiate_machine.proofs.foreign_command_matches.Goals as goal

pub returns : goal.returns
returns g c = λ handed. command-matches _
    (chosen_by (λ value. g.T.Default.is_default value) (λ who. g.B.Decides.decides who) (λ who. g.B.Degrades.degrades who)
    (λ who. g.D.Degrades.degrades who) handed)
