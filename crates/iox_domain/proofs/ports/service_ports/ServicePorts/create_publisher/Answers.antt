use Rattle.std.proofs.Common.{sym, ◌∙◌, Ok}
use Rattle.iox_domain_ports.specs.DomainValues.declared.degradation.DegradationCause.TheVariants as cause
use Rattle.iox_domain.proofs.Coming.{creates_publisher}
use Rattle.iox_domain.proofs.ports.service_ports.ServicePorts.create_publisher.Goals as goal

pub returns-in-Ok : goal.returns-in-Ok
returns-in-Ok g c =
    creates_publisher (g.O.Overrides.overrides c.args.overriding.now)
    (g.D.Degrades.degrades c.args.handler.now cause.FailedToEstablishConnection) c.args.config c.args.user_header c.args.self.now
    c.add_publisher.new.self c.in-Some.needed
    c.in-Some-publisher_place.place c.max.result c.number_of_places-slots.result (Ok c.in-Ok.number)
    (sym c.slots_needed.ensures.slots ∙ c.in-Some.is) (sym c.publisher_place.ensures.place ∙ c.in-Some-publisher_place.is)
    c.max.ensures c.number_of_places-slots.ensures.number c.in-Ok.ensures
