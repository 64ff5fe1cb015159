use Rattle.std.proofs.Common.{refl}
use Rattle.iox_hub.proofs.RecordedRuns.{known_so}
use Rattle.iox_hub.proofs.recorded.recorded_hub.RecordedHub.received_fit.Goals as goal

pub returns-clause-fit : goal.returns-clause-fit
returns-clause-fit g c = rw (← c.self.view_is) c.self.invariant.all_fit

pub returns-clause-known : goal.returns-clause-known
returns-clause-known g c = rw (← c.self.view_is)
    (λ handed. known_so _ refl handed c.self.inside.history.calls c.self.inside.hub (c.self.invariant.run handed))
