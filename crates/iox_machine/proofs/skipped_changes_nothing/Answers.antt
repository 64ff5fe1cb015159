use Rattle.iox_machine.specs.Choices.{chosen_by}
use Rattle.iox_machine.proofs.Skipped.{skipped-changes-nothing}
use Rattle.iox_machine.proofs.skipped_changes_nothing.Goals as goal

pub returns : goal.returns
returns g c = λ handed. skipped-changes-nothing (chosen_by (λ value. g.T.Default.is_default value) (λ who. g.B.Decides.decides who)
    (λ who. g.B.Degrades.degrades who) (λ who. g.D.Degrades.degrades who) handed)
