use Rattle.iox_hub_machine.proofs.TypedTelling.{hub_tells}
use Rattle.iox_hub_machine.proofs.typed.typed_calls_tell.Goals as goal

pub returns : goal.returns
returns g c = hub_tells _ _ (λ overriding. g.O.Overrides.overrides overriding) (λ handlers. g.B.Degrades.degrades handlers)
    (λ handlers. g.B.Decides.decides handlers) (λ handler. g.D.Degrades.degrades handler)
