use Rattle.std.proofs.Common.{rules}
use Rattle.iox_domain_ports.proofs.publisher_port.PublisherPort.tie.Goals as goal

pub returns-in-Ok-clause-ties : goal.returns-in-Ok-clause-ties
returns-in-Ok-clause-ties g c = (c.in-Ok.index, c.join.new.self, search (rules, c.in-Ok.ensures.joins), search rules)
