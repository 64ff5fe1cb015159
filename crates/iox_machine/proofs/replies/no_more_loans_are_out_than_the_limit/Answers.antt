use Rattle.iox_machine.specs.Choices.{chosen_by}
use Rattle.iox_machine.proofs.Limited.{loans-are-limited}
use Rattle.iox_machine.proofs.replies.no_more_loans_are_out_than_the_limit.Goals as goal

pub returns : goal.returns
returns g c = λ handed. loans-are-limited (chosen_by (λ value. g.T.Default.is_default value) (λ who. g.B.Decides.decides who)
    (λ who. g.B.Degrades.degrades who) (λ who. g.D.Degrades.degrades who) handed)
