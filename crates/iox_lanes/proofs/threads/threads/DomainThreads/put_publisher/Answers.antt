use Rattle.std.proofs.Common.{sym, subst}
use Rattle.iox_lanes_threads.specs.Ending.{IsPublisherOf}
use Rattle.iox_lanes.proofs.threads.threads.DomainThreads.put_publisher.Goals as goal

pub returns-clause-own : goal.returns-clause-own
returns-clause-own g c = λ all one. c.append_publisher.ensures.own c.args.self.now.board.board all
    (subst (IsPublisherOf c.args.self.now.board.board) (sym c.into_port.ensures) one)
