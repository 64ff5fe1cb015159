use Rattle.std.proofs.Common.{sym, subst, ap, ◌∙◌}
use Rattle.iox_lanes_machine.specs.LanesBase.Publishing.{publisher_next}
use Rattle.iox_lanes_machine.specs.LanesBase.declared.calls.publisher.PublisherCall.{PublisherCall}
use Rattle.iox_lanes_machine.specs.LanesBase.declared.words.access.SharedAccess.{SharedAccess}
use Rattle.iox_lanes_threads_rule.specs.Acts.{single, port_of, stepped, ToldBy}
use Rattle.iox_lanes_threads_ports.specs.Courses.{publisher_party}
use Rattle.iox_lanes_threads_ports.specs.Ports.{PublisherStands}
use Rattle.iox_lanes_threads_ports.specs.Strides.{called}
use Rattle.iox_lanes_threads_ports.proofs.publishing.step.Goals as goal

pub access_ahead-given-requires-clause-stands : goal.access_ahead-given-requires-clause-stands
access_ahead-given-requires-clause-stands g c =
    subst (λ (call : PublisherCall). PublisherStands (port_of c.args.seat.now.me) (called call c.args.lane.now)) (sym c.stage-call.ensures)
    c.requires.stands

pub access_ahead-given-requires-clause-next : goal.access_ahead-given-requires-clause-next
access_ahead-given-requires-clause-next g c = sym c.next.ensures

pub returns-clause-steps : goal.returns-clause-steps
returns-clause-steps g c = (
  c.access_ahead-given.result,
  subst (λ (access : SharedAccess). ToldBy (port_of c.args.seat.now.me) access c.access_ahead-given.result)
      (c.next.ensures ∙ ap publisher_next c.stage-call.ensures)
      c.access_ahead-given.ensures.told,
  c.access_ahead-given.ensures.port
      ∙ ap (λ (its : SharedAccess × PublisherCall). single (stepped (port_of c.args.seat.now.me) its.0 c.access_ahead-given.result
      (publisher_party (called its.1 c.args.lane.now)))) (λ i. (
        (c.next.ensures ∙ ap publisher_next c.stage-call.ensures) i,
        c.stage-call.ensures i,
      )),
  c.go_on.ensures.lane,
)
