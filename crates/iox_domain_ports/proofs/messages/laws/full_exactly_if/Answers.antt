use Rattle.iox_domain_ports.proofs.Fullness.{full_exactly_if}
use Rattle.iox_domain_ports.proofs.messages.laws.full_exactly_if.Goals as goal

pub returns : goal.returns
returns c = full_exactly_if
