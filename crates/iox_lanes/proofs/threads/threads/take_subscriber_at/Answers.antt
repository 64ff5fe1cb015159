use Rattle.std.proofs.Common.{sym, subst}
use Rattle.iox_lanes_threads.specs.Ending.{IsSubscriberOf}
use Rattle.iox_lanes.proofs.Owning.{all_left}
use Rattle.iox_lanes.proofs.threads.threads.take_subscriber_at.Goals as goal

pub returns-clause-own : goal.returns-clause-own
returns-clause-own c = λ board own. (
  all_left (IsSubscriberOf board) c.args.ports.now.items c.remove.new.self.items c.args.at c.remove.ensures.items own,
  subst (IsSubscriberOf board) (sym c.remove.ensures.value) (own c.args.at c.remove.result c.requires),
)
