use Rattle.std.proofs.Common.{sym, subst}
use Rattle.iox_lanes_threads.specs.Ending.{IsSubscriberOf}
use Rattle.iox_lanes.proofs.threads.threads.DomainThreads.put_subscriber.Goals as goal

pub returns-clause-own : goal.returns-clause-own
returns-clause-own g c = λ all one. c.append_subscriber.ensures.own c.args.self.now.board.board all
    (subst (IsSubscriberOf c.args.self.now.board.board) (sym c.into_port.ensures) one)
