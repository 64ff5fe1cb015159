use Rattle.iox_hub_commands.specs.Terms.{terms_of}
use Rattle.iox_machine.specs.Choices.{chosen_by}
use Rattle.iox_hub_machine.proofs.TypedReading.{held_may_be_used}
use Rattle.iox_hub_machine.proofs.typed.what_is_held_may_be_used.Goals as goal

pub returns : goal.returns
returns g c handed fixed fixed_reader variant = held_may_be_used variant
    (terms_of g.T.ZeroCopySend.name g.T.ZeroCopySend.size g.T.ZeroCopySend.alignment
    (λ value. g.T.Default.is_default value) g.U.ZeroCopySend.name g.U.ZeroCopySend.size g.U.ZeroCopySend.alignment
    (λ header. g.U.Default.is_default header) fixed (λ handlers. g.B.Degrades.degrades handlers)
    (λ handlers. g.B.Decides.decides handlers) fixed_reader (λ handler. g.D.Degrades.degrades handler))
    (chosen_by (λ value. g.T.Default.is_default value) (λ who. g.B.Decides.decides who) (λ who. g.B.Degrades.degrades who)
    (λ who. g.D.Degrades.degrades who) handed)
