use Rattle.std.proofs.Common.{rules, refl, ◌≡◌, Some}
use Rattle.iox_domain_ports.specs.Publishers.{port_of}
use Rattle.iox_domain.specs.Lending.{LoansOne}
use Rattle.iox_domain.proofs.Putting.{at_standing}
use Rattle.iox_domain.proofs.ports.service_ports.ServicePorts.loan.Goals as goal

pub returns : goal.returns
returns g c =
    let there : port_of c.args.number c.args.self.now.publishers ≡ Some c.in_ok-port.port.now
    = search (rules, c.in_ok-port.ensures.value) in
    at_standing c.args.number (LoansOne c.args.values c.args.elements) c.args.self.now _ c.in_ok-port.port.now c.loan_one.new.port
    c.loan_one.result there c.loan_one.ensures.loans c.loan_one.ensures.none c.loan_one.ensures.stands refl
