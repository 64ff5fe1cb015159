use Rattle.iox_machine.specs.Choices.{chosen_by}
use Rattle.iox_machine.proofs.Written.{set-writes-one}
use Rattle.iox_machine.proofs.replies.a_set_writes_one_value.Goals as goal

pub returns : goal.returns
returns g c = λ handed. set-writes-one (chosen_by (λ value. g.T.Default.is_default value) (λ who. g.B.Decides.decides who)
    (λ who. g.B.Degrades.degrades who) (λ who. g.D.Degrades.degrades who) handed)
