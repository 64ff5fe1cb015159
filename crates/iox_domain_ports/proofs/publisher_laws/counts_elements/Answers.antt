use Rattle.iox_domain_ports.proofs.Counted.{counts_elements}
use Rattle.iox_domain_ports.proofs.publisher_laws.counts_elements.Goals as goal

pub returns : goal.returns
returns c = counts_elements
