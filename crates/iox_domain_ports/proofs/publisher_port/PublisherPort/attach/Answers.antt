use Rattle.std.proofs.Common.{rules}
use Rattle.iox_domain_ports.proofs.publisher_port.PublisherPort.attach.Goals as goal

pub returns-clause-attaches : goal.returns-clause-attaches
returns-clause-attaches g c = (c.join.new.self, search (rules, c.in_ok-index.ensures.joins), search rules)
