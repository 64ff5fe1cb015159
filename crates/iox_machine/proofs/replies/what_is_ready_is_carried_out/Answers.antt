use Rattle.iox_machine.specs.Choices.{chosen_by}
use Rattle.iox_machine.proofs.Skipped.{skipped-if-unready}
use Rattle.iox_machine.proofs.replies.what_is_ready_is_carried_out.Goals as goal

pub returns : goal.returns
returns g c = λ handed. skipped-if-unready (chosen_by (λ value. g.T.Default.is_default value) (λ who. g.B.Decides.decides who)
    (λ who. g.B.Degrades.degrades who) (λ who. g.D.Degrades.degrades who) handed)
