use Rattle.std.proofs.Common.{◌∙◌, ap}
use Rattle.iox_domain_ports.proofs.Beginning.{begins_at, under_way}
use Rattle.iox_domain_ports.proofs.publisher_port.PublisherPort.begin.Goals as goal

pub returns-clause-begun : goal.returns-clause-begun
returns-clause-begun g c =
    ap (λ progress. record c.args.self.now
    { progress = progress; last_sequence = c.next_sequence-self.result; sender = c.begin_send.new.self }) c.start-self.ensures
    ∙ begins_at c.args.self.now c.begin_send.new.self c.args.slot c.next_sequence-self.result c.next_sequence-self.ensures
    c.requires.written c.begin_send.ensures

pub returns-clause-under_way : goal.returns-clause-under_way
returns-clause-under_way g c = (under_way c.args.self.now.sender c.begin_send.new.self c.args.slot c.next_sequence-self.result
    c.requires.written c.begin_send.ensures).0

pub returns-clause-kind : goal.returns-clause-kind
returns-clause-kind g c = (under_way c.args.self.now.sender c.begin_send.new.self c.args.slot c.next_sequence-self.result
    c.requires.written c.begin_send.ensures).1
