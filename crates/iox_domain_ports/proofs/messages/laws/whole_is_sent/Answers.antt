use Rattle.iox_domain_ports.proofs.Holding.{whole_is_sent}
use Rattle.iox_domain_ports.proofs.messages.laws.whole_is_sent.Goals as goal

pub returns : goal.returns
returns g c = whole_is_sent
