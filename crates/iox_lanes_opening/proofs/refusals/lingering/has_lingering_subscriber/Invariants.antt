use Rattle.std.proofs.Common.{◌≡◌}
use Rattle.std.specs.List.{list_any}
use Rattle.iox_lanes_opening.specs.Lingering.{subscriber_lingers}
use Rattle.iox_lanes_opening.proofs.refusals.lingering.has_lingering_subscriber.Given as goal

abbrev pub invariant-loop-number : goal.invariant-loop-number
invariant-loop-number g l = list_any (subscriber_lingers l.ports.subscriber_list l.ports.publishers) l.number-iterator
    ≡ list_any (subscriber_lingers l.ports.subscriber_list l.ports.publishers) l.ports.subscribers
