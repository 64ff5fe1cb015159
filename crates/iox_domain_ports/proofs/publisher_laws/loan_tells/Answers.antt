use Rattle.iox_domain_ports.proofs.Lent.{loan_tells}
use Rattle.iox_domain_ports.proofs.publisher_laws.loan_tells.Goals as goal

pub returns : goal.returns
returns g c = loan_tells
