use Rattle.std.proofs.Common.{◌≡◌, true, subst}
use Rattle.iox_lanes_threads_ports.specs.Known.{ListsRead}
use Rattle.iox_lanes_threads.specs.Ports.{BoardSubscriber}
use Rattle.iox_lanes_threads.proofs.subscriber.LaneSubscriber.read.Goals as goal

pub returns-clause-listed : goal.returns-clause-listed
returns-clause-listed c =
    subst (λ (v : BoardSubscriber). c.read.result ≡ true → ListsRead c.read.new.self.port v.own.lane.port.extent c.args.sample)
    c.self.view_is c.read.ensures.listed
