use Rattle.std.proofs.Common.{refl}
use Rattle.iox_domain.specs.DomainValues.declared.degradation.DegradationCause.TheVariants.{FailedToEstablishConnection}
use Rattle.iox_domain.proofs.StayRoomy.{new_roomy, stay_roomy}
use Rattle.iox_domain.proofs.LessLeft.{less_left}
use Rattle.iox_domain.proofs.allowances.samples.samples_left_by_calls.Goals as goal

pub returns : goal.returns
returns g c = record {
  begins = λ service sizes. new_roomy (g.O.Overrides.overrides c.args._overriding.now)
      (g.B.Degrades.degrades c.args._handlers.now FailedToEstablishConnection) (g.B.Decides.decides c.args._handlers.now) service sizes;
  nothing = λ service sizes. refl;
  goes_on = λ call old new happens roomy. stay_roomy (g.O.Overrides.overrides c.args._overriding.now)
      (g.B.Degrades.degrades c.args._handlers.now FailedToEstablishConnection) (g.B.Decides.decides c.args._handlers.now) call old new
      happens roomy;
  left = λ call old new happens roomy. less_left (g.O.Overrides.overrides c.args._overriding.now)
      (g.B.Degrades.degrades c.args._handlers.now FailedToEstablishConnection) (g.B.Decides.decides c.args._handlers.now) call old new
      happens roomy;
}
