use Rattle.iox_domain.specs.DomainValues.declared.degradation.DegradationCause.TheVariants.{FailedToEstablishConnection}
use Rattle.iox_lanes_sound.proofs.Strays as lemmas
use Rattle.iox_lanes_sound.proofs.calls_leave_no_strays.Goals as goal

pub returns : goal.returns
returns g c = lemmas.leave_no_strays (g.O.Overrides.overrides c.args._overriding.now)
    (g.B.Degrades.degrades c.args._handlers.now FailedToEstablishConnection) (g.B.Decides.decides c.args._handlers.now)
