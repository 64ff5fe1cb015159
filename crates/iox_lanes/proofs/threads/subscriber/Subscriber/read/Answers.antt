use Rattle.std.proofs.Common.{subst}
use Rattle.iox_lanes_threads_ports.specs.Holding.{HasRead}
use Rattle.iox_lanes_threads_ports.proofs.Listing.{reads_stand}
use Rattle.iox_lanes.specs.HeldByNone.{StandsInSlot}
use Rattle.iox_lanes.specs.Typed.{TypedSubscriber}
use Rattle.iox_lanes.proofs.threads.subscriber.Subscriber.read.Goals as goal

pub returns-clause-has_read : goal.returns-clause-has_read
returns-clause-has_read g c done =
    let whole : HasRead c.read.new.self.own.port c.self.inside.port.own.lane.port.extent c.args.slot c.read.new.self.own.words
    = record { listed = c.read.ensures.listed done; known = c.read.ensures.words done; whole = c.read.ensures.whole done } in
    subst (λ (s : TypedSubscriber). HasRead c.read.new.self.own.port s.port.own.lane.port.extent c.args.slot c.read.new.self.own.words)
    c.self.view_is whole

pub returns-clause-stands : goal.returns-clause-stands
returns-clause-stands g c done =
    let stands : StandsInSlot c.read.new.self.own.port c.self.inside.port.own.lane.port.extent c.args.slot c.read.new.self.own.words
    = λ words ports at number p fit back early there k within.
    reads_stand c.read.new.self.own.port.service words ports at number c.read.new.self.own.port p
    c.self.inside.port.own.lane.port.extent c.args.slot c.read.new.self.own.words fit back early there (c.read.ensures.listed done)
    (c.read.ensures.words done) (c.read.ensures.whole done) k within in
    subst (λ (s : TypedSubscriber). StandsInSlot c.read.new.self.own.port s.port.own.lane.port.extent c.args.slot
    c.read.new.self.own.words) c.self.view_is stands
