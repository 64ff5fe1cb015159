use Rattle.iox_machine.specs.Choices.{chosen_by}
use Rattle.iox_hub_machine.proofs.Samples.{sequence_simulated}
use Rattle.iox_hub_machine.proofs.telling_a_sequence_number_is_simulated.Goals as goal

pub returns : goal.returns
returns g c = λ handed. sequence_simulated (chosen_by (λ value. g.T.Default.is_default value) (λ handlers. g.B.Decides.decides handlers)
    (λ handlers. g.B.Degrades.degrades handlers) (λ handler. g.D.Degrades.degrades handler) handed)
    (λ header. g.U.Default.is_default header)
    (λ handlers. g.B.Degrades.degrades handlers) (λ handlers. g.B.Decides.decides handlers) (λ handler. g.D.Degrades.degrades handler)
