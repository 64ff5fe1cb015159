use Rattle.std.proofs.Common.{sym, ap, subst, ◌∙◌}
use Rattle.iox_lanes_machine.specs.LanesBase.declared.calls.subscriber.Receipt.{Receipt}
use Rattle.iox_lanes_machine.specs.LanesParties.Parties.{subscriber_begun}
use Rattle.iox_lanes_machine.specs.LanesParties.declared.call.Answer.TheVariants as answer
use Rattle.iox_lanes_machine.specs.LanesParties.declared.call.Call.TheVariants as call
use Rattle.iox_lanes_threads_rule.specs.Acts.{port_of}
use Rattle.iox_lanes_threads_ports.specs.Courses.{SubscriberEnds}
use Rattle.iox_lanes_threads_ports.specs.Values.{SubscriberPort, settled}
use Rattle.iox_lanes_threads_ports.proofs.Between as lemmas
use Rattle.iox_lanes_threads_ports.proofs.subscriber.ThreadedSubscriber.receive.Goals as goal

pub run_on-requires-clause-stands : goal.run_on-requires-clause-stands
run_on-requires-clause-stands g c =
    lemmas.begun_stands (port_of c.self.inside.seat.me) c.self.inside.lane c.settle.new.lane c.begin.new.self call.Receive
    c.self.invariant.1 c.settle.ensures.lane c.begin.ensures (lemmas.receive_fits c.settle.new.lane c.settle.ensures.idle)

pub invariant_of-self : goal.invariant_of-self
invariant_of-self g c = (
  lemmas.seated_on c.self.inside.seat.table_id c.run_on.new.seat.table_id c.self.inside.seat.me c.run_on.new.seat.me c.self.inside.sizes
      c.self.invariant.0 c.run_on.ensures.table.0 c.run_on.ensures.seat.0 c.run_on.ensures.seat.1,
  lemmas.last_stands (port_of c.run_on.new.seat.me) c.run_on.new.lane c.go_on.new.self c.run_on.ensures.stands c.run_on.ensures.over
      c.go_on.ensures.lane,
  lemmas.last_between c.run_on.new.lane c.go_on.new.self c.run_on.ensures.over c.go_on.ensures.lane,
)

pub returns-clause-call : goal.returns-clause-call
returns-clause-call g c =
    subst (λ (r : Receipt). SubscriberEnds c.args.self.now.port (subscriber_begun 0 call.Receive c.args.self.now.lane)
    (port_of c.run_on.new.seat.me) (settled c.go_on.new.self) (answer.Received r)) (sym c.received.ensures)
    (lemmas.receive_done c.args.self.now (port_of c.self.inside.seat.me) (port_of c.run_on.new.seat.me) (settled c.self.inside.lane)
    c.begin.new.self c.run_on.new.lane c.go_on.new.self c.go_on.result
    (ap (λ (v : SubscriberPort). v.port) (sym c.self.view_is)) (ap (λ (v : SubscriberPort). v.lane) (sym c.self.view_is))
    (c.begin.ensures ∙ ap (subscriber_begun 0 call.Receive) c.settle.ensures.lane)
    c.run_on.ensures.goes c.run_on.ensures.over c.go_on.ensures.lane c.go_on.ensures.answer)

pub returns-clause-stood : goal.returns-clause-stood
returns-clause-stood g c = lemmas.stood c.args.self.now (port_of c.self.inside.seat.me) c.self.inside.lane
    (ap (λ (v : SubscriberPort). v.port) (sym c.self.view_is)) (ap (λ (v : SubscriberPort). v.lane) (sym c.self.view_is))
    c.self.invariant.1 c.self.invariant.2
