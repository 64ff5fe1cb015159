use Rattle.std.proofs.Common.{rules, refl, ap, ◌≡◌, ◌∙◌, Some, true}
use Rattle.iox_domain_ports.specs.DomainValues.declared.degradation.DegradationCause.TheVariants as cause
use Rattle.iox_domain_ports.specs.Publishers.{port_of}
use Rattle.iox_domain.specs.PortsPublishing.{SendsOne}
use Rattle.iox_domain.proofs.Lifting.{at_publisher, at_publisher-none}
use Rattle.iox_domain.proofs.Putting.{at_standing}
use Rattle.iox_domain.proofs.ports.service_ports.ServicePorts.send.Goals as goal

pub returns-in_err-outcome : goal.returns-in_err-outcome
returns-in_err-outcome g c =
    let there : port_of c.args.number c.args.self.now.publishers ≡ Some c.in_ok-port.port.now
    = search (rules, c.in_ok-port.ensures.value) in
    rw c.from_residual-in_err-outcome.ensures
    (at_publisher-none c.args.number (SendsOne (g.B.Degrades.degrades c.args.handlers.now cause.FailedToEstablishConnection)
    (g.B.Decides.decides c.args.handlers.now) c.args.self.now.subscriber_list c.args.slot) c.args.self.now _ c.in_ok-port.port.now
    c.send_one.new.port there c.in_err-outcome.ensures.sends (c.in_err-outcome.ensures.none refl) refl)

pub returns-then-not-stands : goal.returns-then-not-stands
returns-then-not-stands g c =
    let there : port_of c.args.number c.args.self.now.publishers ≡ Some c.in_ok-port.port.now
    = search (rules, c.in_ok-port.ensures.value) in
    at_publisher c.args.number (SendsOne (g.B.Degrades.degrades c.args.handlers.now cause.FailedToEstablishConnection)
    (g.B.Decides.decides c.args.handlers.now) c.args.self.now.subscriber_list c.args.slot) c.args.self.now _ c.in_ok-port.port.now
    c.send_one.new.port c.in_ok-outcome.outcome there
    c.in_ok-outcome.ensures.sends (ap (λ publishers. record c.args.self.now { publishers = publishers }) c.settle.ensures)

pub returns-else-not-stands : goal.returns-else-not-stands
returns-else-not-stands g c =
    let there : port_of c.args.number c.args.self.now.publishers ≡ Some c.in_ok-port.port.now
    = search (rules, c.in_ok-port.ensures.value) in
    let stands : c.in_ok-port.port.now.stands ≡ true = search (rules, c.if-not-stands.false) in
    at_standing c.args.number (SendsOne (g.B.Degrades.degrades c.args.handlers.now cause.FailedToEstablishConnection)
    (g.B.Decides.decides c.args.handlers.now) c.args.self.now.subscriber_list c.args.slot) c.args.self.now _ c.in_ok-port.port.now
    c.send_one.new.port (Some c.in_ok-outcome.outcome) there c.in_ok-outcome.ensures.sends c.in_ok-outcome.ensures.none
    (λ answered. c.in_ok-outcome.ensures.stands ∙ stands) refl
