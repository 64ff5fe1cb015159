use Rattle.iox_machine.specs.Choices.{chosen_by}
use Rattle.iox_machine.proofs.FollowRuns.{publisher-is-connected}
use Rattle.iox_machine.proofs.a_publisher_is_connected_as_listed.Goals as goal

pub returns : goal.returns
returns g c = λ handed. publisher-is-connected (chosen_by (λ value. g.T.Default.is_default value) (λ who. g.B.Decides.decides who)
    (λ who. g.B.Degrades.degrades who) (λ who. g.D.Degrades.degrades who) handed)
