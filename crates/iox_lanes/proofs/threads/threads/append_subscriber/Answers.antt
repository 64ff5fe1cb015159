use Rattle.iox_lanes_threads.specs.Ending.{IsSubscriberOf}
use Rattle.iox_lanes.proofs.Owning.{all_put}
use Rattle.iox_lanes.proofs.threads.threads.append_subscriber.Goals as goal

pub returns-clause-own : goal.returns-clause-own
returns-clause-own c = λ board all one. all_put (IsSubscriberOf board) c.args.ports.now.items c.push_reserved.new.self.items c.args.port
    c.push_reserved.ensures.items all one
