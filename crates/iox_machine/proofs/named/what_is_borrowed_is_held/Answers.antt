use Rattle.iox_machine.specs.Choices.{chosen_by}
use Rattle.iox_machine.proofs.Borrowing.{held-is-borrowed}
use Rattle.iox_machine.proofs.named.what_is_borrowed_is_held.Goals as goal

pub returns : goal.returns
returns g c = λ handed. held-is-borrowed (chosen_by (λ value. g.T.Default.is_default value) (λ who. g.B.Decides.decides who)
    (λ who. g.B.Degrades.degrades who) (λ who. g.D.Degrades.degrades who) handed)
