use Rattle.iox_domain_ports.proofs.Reaching.{reaches_all}
use Rattle.iox_domain_ports.proofs.publisher_port.PublisherPort.deliver.Goals as goal

pub returns-clause-all : goal.returns-clause-all
returns-clause-all g c = λ overflows sending begins.
    reaches_all (g.B.Decides.decides c.args.handlers.now) c.args.self.now _ _
    (c.go_on-arrived.result, c.go_on-arrived.new.self, c.go_on-arrived.ensures, c.conclude.ensures.answer, c.conclude.ensures.after)
    overflows sending begins
