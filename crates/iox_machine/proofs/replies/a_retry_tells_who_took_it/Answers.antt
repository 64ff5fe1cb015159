use Rattle.iox_machine.specs.Choices.{chosen_by}
use Rattle.iox_machine.proofs.Delivered.{retries-tell-takers}
use Rattle.iox_machine.proofs.replies.a_retry_tells_who_took_it.Goals as goal

pub returns : goal.returns
returns g c = λ handed. retries-tell-takers (chosen_by (λ value. g.T.Default.is_default value) (λ who. g.B.Decides.decides who)
    (λ who. g.B.Degrades.degrades who) (λ who. g.D.Degrades.degrades who) handed)
