use Rattle.iox_machine.specs.Choices.{chosen_by}
use Rattle.iox_machine.proofs.Among.{unknown-skipped}
use Rattle.iox_machine.proofs.what_nobody_has_is_skipped.Goals as goal

pub returns : goal.returns
returns g c = λ handed. unknown-skipped (chosen_by (λ value. g.T.Default.is_default value) (λ who. g.B.Decides.decides who)
    (λ who. g.B.Degrades.degrades who) (λ who. g.D.Degrades.degrades who) handed)
