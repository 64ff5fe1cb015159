use Rattle.std.proofs.Common.{rules, refl, ◌≡◌, Some}
use Rattle.iox_domain_ports.specs.DomainValues.declared.degradation.DegradationCause.TheVariants as cause
use Rattle.iox_domain_ports.specs.Publishers.{port_of}
use Rattle.iox_domain.specs.Putting.{PutsOne}
use Rattle.iox_domain.proofs.Putting.{at_standing}
use Rattle.iox_domain.proofs.ports.service_ports.ServicePorts.put.Goals as goal

pub returns : goal.returns
returns g c =
    let there : port_of c.args.number c.args.self.now.publishers ≡ Some c.in_ok-port.port.now
    = search (rules, c.in_ok-port.ensures.value) in
    at_standing c.args.number (PutsOne (g.B.Degrades.degrades c.args.handlers.now cause.FailedToEstablishConnection)
    (g.B.Decides.decides c.args.handlers.now) c.args.self.now.subscriber_list c.args.values.now) c.args.self.now _
    c.in_ok-port.port.now c.put_one.new.port c.put_one.result
    there c.put_one.ensures.puts c.put_one.ensures.none c.put_one.ensures.stands refl
