use Rattle.iox_domain.specs.DomainValues.declared.degradation.DegradationCause.TheVariants.{FailedToEstablishConnection}
use Rattle.iox_lanes_sound.proofs.Unrefused as lemmas
use Rattle.iox_lanes_sound.proofs.calls_keep_to_one.Goals as goal

pub returns : goal.returns
returns g c = lemmas.calls_keep_to_one (g.O.Overrides.overrides c.args._overriding.now)
    (g.B.Degrades.degrades c.args._handlers.now FailedToEstablishConnection) (g.B.Decides.decides c.args._handlers.now)
