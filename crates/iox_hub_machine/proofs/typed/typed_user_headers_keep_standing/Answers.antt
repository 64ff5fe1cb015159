use Rattle.iox_hub_commands.specs.Terms.{terms_of}
use Rattle.iox_machine.specs.Choices.{chosen_by}
use Rattle.iox_hub_machine.proofs.TypedHeaders.{user_headers_keep, user_headers_need_none}
use Rattle.iox_hub_machine.proofs.typed.typed_user_headers_keep_standing.Goals as goal

pub returns-clause-stands : goal.returns-clause-stands
returns-clause-stands g c handed fixed fixed_reader variant = user_headers_keep variant
    (terms_of g.T.ZeroCopySend.name g.T.ZeroCopySend.size
    g.T.ZeroCopySend.alignment (λ value. g.T.Default.is_default value) g.U.ZeroCopySend.name g.U.ZeroCopySend.size
    g.U.ZeroCopySend.alignment (λ header. g.U.Default.is_default header) fixed
    (λ handlers. g.B.Degrades.degrades handlers) (λ handlers. g.B.Decides.decides handlers) fixed_reader
    (λ handler. g.D.Degrades.degrades handler))
    (chosen_by (λ value. g.T.Default.is_default value) (λ who. g.B.Decides.decides who) (λ who. g.B.Degrades.degrades who)
    (λ who. g.D.Degrades.degrades who) handed)

pub returns-clause-called : goal.returns-clause-called
returns-clause-called g c handed fixed fixed_reader variant = user_headers_need_none variant
    (terms_of g.T.ZeroCopySend.name g.T.ZeroCopySend.size
    g.T.ZeroCopySend.alignment (λ value. g.T.Default.is_default value) g.U.ZeroCopySend.name g.U.ZeroCopySend.size
    g.U.ZeroCopySend.alignment (λ header. g.U.Default.is_default header) fixed
    (λ handlers. g.B.Degrades.degrades handlers) (λ handlers. g.B.Decides.decides handlers) fixed_reader
    (λ handler. g.D.Degrades.degrades handler))
    (chosen_by (λ value. g.T.Default.is_default value) (λ who. g.B.Decides.decides who) (λ who. g.B.Degrades.degrades who)
    (λ who. g.D.Degrades.degrades who) handed)
