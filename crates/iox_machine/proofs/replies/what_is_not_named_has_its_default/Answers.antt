use Rattle.iox_machine.specs.Choices.{chosen_by}
use Rattle.iox_machine.proofs.Called.{defaults-are-known}
use Rattle.iox_machine.proofs.replies.what_is_not_named_has_its_default.Goals as goal

pub returns : goal.returns
returns g c = λ handed. defaults-are-known (chosen_by (λ value. g.T.Default.is_default value) (λ who. g.B.Decides.decides who)
    (λ who. g.B.Degrades.degrades who) (λ who. g.D.Degrades.degrades who) handed)
