use Rattle.iox_machine.specs.Choices.{chosen_by}
use Rattle.iox_machine.proofs.PortReplies.{done-unless-skipped}
use Rattle.iox_machine.proofs.replies.a_simple_command_is_done.Goals as goal

pub returns : goal.returns
returns g c = λ handed. done-unless-skipped (chosen_by (λ value. g.T.Default.is_default value) (λ who. g.B.Decides.decides who)
    (λ who. g.B.Degrades.degrades who) (λ who. g.D.Degrades.degrades who) handed)
