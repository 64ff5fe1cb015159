use Rattle.std.proofs.Common.{sym, subst, ap, ◌∙◌}
use Rattle.iox_lanes_machine.specs.LanesBase.Subscribing.{subscriber_next}
use Rattle.iox_lanes_machine.specs.LanesBase.declared.calls.subscriber.SubscriberCall.{SubscriberCall}
use Rattle.iox_lanes_machine.specs.LanesBase.declared.words.access.SharedAccess.{SharedAccess}
use Rattle.iox_lanes_threads_rule.specs.Acts.{single, port_of, stepped, ToldBy}
use Rattle.iox_lanes_threads_ports.specs.Courses.{subscriber_party}
use Rattle.iox_lanes_threads_ports.specs.Ports.{SubscriberStands}
use Rattle.iox_lanes_threads_ports.specs.Strides.{subscriber_called}
use Rattle.iox_lanes_threads_ports.proofs.subscribing.step.Goals as goal

pub access_ahead-given-requires-clause-stands : goal.access_ahead-given-requires-clause-stands
access_ahead-given-requires-clause-stands g c =
    subst (λ (call : SubscriberCall). SubscriberStands (port_of c.args.seat.now.me) (subscriber_called call c.args.lane.now))
    (sym c.stage-call.ensures)
    c.requires.stands

pub access_ahead-given-requires-clause-next : goal.access_ahead-given-requires-clause-next
access_ahead-given-requires-clause-next g c = sym c.next.ensures

pub returns-clause-steps : goal.returns-clause-steps
returns-clause-steps g c = (
  c.access_ahead-given.result,
  subst (λ (access : SharedAccess). ToldBy (port_of c.args.seat.now.me) access c.access_ahead-given.result)
      (c.next.ensures ∙ ap subscriber_next c.stage-call.ensures)
      c.access_ahead-given.ensures.told,
  c.access_ahead-given.ensures.port
      ∙ ap (λ (its : SharedAccess × SubscriberCall). single (stepped (port_of c.args.seat.now.me) its.0 c.access_ahead-given.result
      (subscriber_party (subscriber_called its.1 c.args.lane.now)))) (λ i. (
        (c.next.ensures ∙ ap subscriber_next c.stage-call.ensures) i,
        c.stage-call.ensures i,
      )),
  c.go_on.ensures.lane,
)
