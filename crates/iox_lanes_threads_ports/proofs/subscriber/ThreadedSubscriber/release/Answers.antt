use Rattle.std.proofs.Common.{refl, sym, ap, subst, ◌∙◌}
use Rattle.iox_lanes_machine.specs.LanesParties.Parties.{SubscriberLaneState, subscriber_fits, words_read}
use Rattle.iox_lanes_machine.specs.LanesParties.declared.call.Call.TheVariants as call
use Rattle.iox_lanes_machine.specs.LanesParties.declared.call.Move.TheVariants.{Begin}
use Rattle.iox_lanes_threads_rule.specs.Acts.{port_of}
use Rattle.iox_lanes_threads_ports.specs.Ports.{SubscriberStands}
use Rattle.iox_lanes_threads_ports.specs.Values.{SubscriberPort, settled, Releases}
use Rattle.iox_lanes_threads_ports.proofs.Between as lemmas
use Rattle.iox_lanes_threads_ports.proofs.KnownReleases.{release_known, release_kept}
use Rattle.iox_lanes_threads_ports.proofs.NeverFull.{releases_by}
use Rattle.iox_lanes_threads_ports.proofs.subscriber.ThreadedSubscriber.release.Goals as goal

pub invariant_of-self : goal.invariant_of-self
invariant_of-self g c = (
  c.self.invariant.0,
  subst (SubscriberStands (port_of c.self.inside.seat.me)) (sym c.settle.ensures.lane)
      (lemmas.settled_stands (port_of c.self.inside.seat.me) c.self.inside.lane c.self.invariant.1),
  lemmas.between_idle c.settle.new.lane.port.call c.settle.ensures.idle,
)

pub finish-requires-clause-stands : goal.finish-requires-clause-stands
finish-requires-clause-stands g c =
    lemmas.begun_stands (port_of c.self.inside.seat.me) c.self.inside.lane c.settle.new.lane c.begin.new.self
    (call.Release c.args.sample) c.self.invariant.1 c.settle.ensures.lane c.begin.ensures (sym c.fits.ensures ∙ c.if-not-fits.false)

pub invariant_of-self-2 : goal.invariant_of-self-2
invariant_of-self-2 g c = (
  lemmas.seated_on c.self.inside.seat.table_id c.finish.new.seat.table_id c.self.inside.seat.me c.finish.new.seat.me c.self.inside.sizes
      c.self.invariant.0 c.finish.ensures.table.0 c.finish.ensures.seat.0 c.finish.ensures.seat.1,
  lemmas.last_stands (port_of c.finish.new.seat.me) c.finish.new.lane c.go_on.new.self c.finish.ensures.stands c.finish.ensures.over
      c.go_on.ensures.lane,
  lemmas.last_between c.finish.new.lane c.go_on.new.self c.finish.ensures.over c.go_on.ensures.lane,
)

pub returns-clause-call : goal.returns-clause-call
returns-clause-call g c =
    let new : SubscriberPort = record {
      table = c.finish.new.seat.table_id;
      port = port_of c.finish.new.seat.me;
      lane = settled c.go_on.new.self;
      words = words_read c.go_on.new.self.port.call c.go_on.new.self.port.words;
    } in
    let lane_is = ap (λ (v : SubscriberPort). v.lane) (sym c.self.view_is) ∙ sym c.settle.ensures.lane in
    let fit = sym c.fits.ensures ∙ c.if-not-fits.false in
    let done = lemmas.release_done c.args.self.now new (port_of c.self.inside.seat.me) c.args.sample c.settle.new.lane c.begin.new.self
    c.finish.new.lane c.go_on.new.self c.go_on.result
    (ap (λ (v : SubscriberPort). v.port) (sym c.self.view_is)) lane_is fit c.begin.ensures
    c.finish.ensures.goes c.finish.ensures.over c.go_on.ensures.lane refl c.go_on.ensures.answer in
    subst (Releases c.args.self.now c.args.sample new) (sym c.release_answer.ensures)
    (releases_by c.args.self.now new c.args.sample c.go_on.result done.0
    (subst (λ (v : SubscriberPort). SubscriberStands v.port v.lane) c.self.view_is
    (lemmas.settled_stands (port_of c.self.inside.seat.me) c.self.inside.lane c.self.invariant.1))
    (ap (λ (l : SubscriberLaneState). subscriber_fits l (Begin (call.Release c.args.sample))) lane_is ∙ fit) done.2 done.1)

pub returns-clause-put : goal.returns-clause-put
returns-clause-put g c = λ e.
    let new : SubscriberPort = record {
      table = c.finish.new.seat.table_id;
      port = port_of c.finish.new.seat.me;
      lane = settled c.go_on.new.self;
      words = words_read c.go_on.new.self.port.call c.go_on.new.self.port.words;
    } in
    release_known c.args.self.now new c.args.sample c.release_answer.result
    (subst (λ (v : SubscriberPort). SubscriberStands v.port v.lane) c.self.view_is
    (lemmas.settled_stands (port_of c.self.inside.seat.me) c.self.inside.lane c.self.invariant.1)) (returns-clause-call g c) e

pub returns-clause-kept : goal.returns-clause-kept
returns-clause-kept g c = λ e.
    let new : SubscriberPort = record {
      table = c.finish.new.seat.table_id;
      port = port_of c.finish.new.seat.me;
      lane = settled c.go_on.new.self;
      words = words_read c.go_on.new.self.port.call c.go_on.new.self.port.words;
    } in
    release_kept c.args.self.now new c.args.sample c.release_answer.result
    (subst (λ (v : SubscriberPort). SubscriberStands v.port v.lane) c.self.view_is
    (lemmas.settled_stands (port_of c.self.inside.seat.me) c.self.inside.lane c.self.invariant.1)) (returns-clause-call g c) e

pub returns-clause-stood : goal.returns-clause-stood
returns-clause-stood g c = lemmas.stood c.args.self.now (port_of c.self.inside.seat.me) c.self.inside.lane
    (ap (λ (v : SubscriberPort). v.port) (sym c.self.view_is)) (ap (λ (v : SubscriberPort). v.lane) (sym c.self.view_is))
    c.self.invariant.1 c.self.invariant.2

pub returns-then-not-fits-clause-stood : goal.returns-then-not-fits-clause-stood
returns-then-not-fits-clause-stood g c = lemmas.stood c.args.self.now (port_of c.self.inside.seat.me) c.self.inside.lane
    (ap (λ (v : SubscriberPort). v.port) (sym c.self.view_is)) (ap (λ (v : SubscriberPort). v.lane) (sym c.self.view_is))
    c.self.invariant.1 c.self.invariant.2
