use Rattle.iox_domain_ports.proofs.Having.{any_there}
use Rattle.iox_domain_ports.proofs.reading.has_connections.Goals as goal

pub returns : goal.returns
returns g c = any_there c.args.port.now.sender.uses.connections c.top.result c.top.ensures.none c.top.ensures.last
