use Rattle.std.proofs.Common.{sym, ◌∙◌}
use Rattle.iox_lanes.proofs.threads.subscriber.Subscriber.release.Goals as goal

pub returns-in-Released-clause-released : goal.returns-in-Released-clause-released
returns-in-Released-clause-released g c =
    (sym c.took.ensures ∙ c.if-not-took.false, c.in-Released.ensures.call, c.give_back.ensures.goes c.in-Released.is)
