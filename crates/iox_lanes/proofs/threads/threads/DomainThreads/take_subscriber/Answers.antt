use Rattle.std.proofs.Common.{sym, subst}
use Rattle.iox_lanes_threads.specs.Ending.{IsSubscriberOf}
use Rattle.iox_lanes.specs.Typed.{TypedSubscriber}
use Rattle.iox_lanes.proofs.threads.threads.DomainThreads.take_subscriber.Goals as goal

pub returns-clause-own : goal.returns-clause-own
returns-clause-own g c = λ all.
    let own = c.take_subscriber_at-port.ensures.own c.args.self.now.board.board all in
    (own.0, subst (λ (port : TypedSubscriber). IsSubscriberOf c.args.self.now.board.board port.port) (sym c.new.ensures) own.1)
