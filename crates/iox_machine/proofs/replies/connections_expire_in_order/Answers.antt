use Rattle.iox_machine.specs.Choices.{chosen_by}
use Rattle.iox_machine.proofs.Expired.{connections-expire-in-order}
use Rattle.iox_machine.proofs.replies.connections_expire_in_order.Goals as goal

pub returns : goal.returns
returns g c = λ handed. connections-expire-in-order (chosen_by (λ value. g.T.Default.is_default value) (λ who. g.B.Decides.decides who)
    (λ who. g.B.Degrades.degrades who) (λ who. g.D.Degrades.degrades who) handed)
