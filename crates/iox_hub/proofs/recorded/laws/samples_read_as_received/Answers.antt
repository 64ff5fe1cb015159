use Rattle.iox_hub.proofs.RecordedReading.{reads_as_received}
use Rattle.iox_hub.proofs.recorded.laws.samples_read_as_received.Goals as goal
use Rattle.iox_machine.specs.Choices.{chosen_by}

pub returns : goal.returns
returns g c = λ handed. reads_as_received (chosen_by (λ value. g.T.Default.is_default value) (λ who. g.B.Decides.decides who)
    (λ who. g.B.Degrades.degrades who) (λ who. g.D.Degrades.degrades who) handed) (c.samples_read_the_same.ensures handed)
