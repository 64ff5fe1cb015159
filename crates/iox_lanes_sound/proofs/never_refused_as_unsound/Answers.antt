use Rattle.iox_domain.specs.DomainValues.declared.degradation.DegradationCause.TheVariants.{FailedToEstablishConnection}
use Rattle.iox_lanes_sound.proofs.Unrefused as lemmas
use Rattle.iox_lanes_sound.proofs.never_refused_as_unsound.Goals as goal

pub returns : goal.returns
returns g c = lemmas.never_unsound g.H.FixedDecision.decision g.K.AsksCaller.asks c.args.domain.now (g.O.Overrides.overrides
    c.args._overriding.now)
    (g.B.Degrades.degrades c.args._handlers.now FailedToEstablishConnection) (g.B.Decides.decides c.args._handlers.now)
