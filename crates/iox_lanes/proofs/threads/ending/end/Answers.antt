use Rattle.std.proofs.Common.{sym, subst}
use Rattle.iox_lanes_threads.specs.Ending.{ArePublishersOf, AreSubscribersOf}
use Rattle.iox_lanes.proofs.threads.ending.end.Goals as goal

pub end-requires-clause-publishers : goal.end-requires-clause-publishers
end-requires-clause-publishers g c =
    subst (λ board. ArePublishersOf board c.args.publishers.items) (sym c.into_fields-board.ensures.0) c.requires.publishers

pub end-requires-clause-subscribers : goal.end-requires-clause-subscribers
end-requires-clause-subscribers g c =
    subst (λ board. AreSubscribersOf board c.args.subscribers.items) (sym c.into_fields-board.ensures.0) c.requires.subscribers
