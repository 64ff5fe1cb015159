use Rattle.std.proofs.Common.{refl}
use Rattle.iox_hub.proofs.RecordedRuns.{answers_so}
use Rattle.iox_hub.proofs.recorded.recorded_hub.RecordedHub.answers_as_machine.Goals as goal

pub returns : goal.returns
returns g c = record {
  answers = rw (← c.self.view_is)
      (λ handed. answers_so _ refl handed c.self.inside.history.calls c.self.inside.hub (c.self.invariant.run handed));
}
