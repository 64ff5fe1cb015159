use Rattle.std.proofs.Common.{◌≡◌, sym, subst}
use Rattle.iox_lanes_threads_rule.specs.Acts.{port_of}
use Rattle.iox_lanes_threads_ports.specs.Ports.{PublisherStands}
use Rattle.iox_lanes_threads_ports.specs.Values.{PublisherPort}
use Rattle.iox_lanes_threads_ports.proofs.publisher.ThreadedPublisher.shows.Goals as goal

pub returns : goal.returns
returns c =
    let was : PublisherPort
    = record { table = c.self.inside.seat.table_id; port = port_of c.self.inside.seat.me; lane = c.self.inside.lane } in
    let is : c.args.self.now ≡ was = cc c.self.view_is in
    subst (λ (v : PublisherPort). PublisherStands v.port v.lane) (sym is) c.self.invariant.1
