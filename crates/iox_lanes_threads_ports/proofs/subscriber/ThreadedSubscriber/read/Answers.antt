use Rattle.std.proofs.Common.{refl, sym, ap, subst, ◌∙◌}
use Rattle.iox_lanes_machine.specs.LanesParties.Parties.{words_read}
use Rattle.iox_lanes_machine.specs.LanesParties.declared.call.Call.TheVariants as call
use Rattle.iox_lanes_threads_rule.specs.Acts.{port_of}
use Rattle.iox_lanes_threads_ports.specs.Ports.{SubscriberStands}
use Rattle.iox_lanes_threads_ports.specs.Values.{SubscriberPort, settled}
use Rattle.iox_lanes_threads_ports.proofs.Between as lemmas
use Rattle.iox_lanes_threads_ports.proofs.KnownReads.{read_words_known, read_whole}
use Rattle.iox_lanes_threads_ports.proofs.Listing.{read_listed}
use Rattle.iox_lanes_threads_ports.proofs.subscriber.ThreadedSubscriber.read.Goals as goal

pub invariant_of-self : goal.invariant_of-self
invariant_of-self g c = (
  c.self.invariant.0,
  subst (SubscriberStands (port_of c.self.inside.seat.me)) (sym c.settle.ensures.lane)
      (lemmas.settled_stands (port_of c.self.inside.seat.me) c.self.inside.lane c.self.invariant.1),
  lemmas.between_idle c.settle.new.lane.port.call c.settle.ensures.idle,
)

pub finish-requires-clause-stands : goal.finish-requires-clause-stands
finish-requires-clause-stands g c =
    lemmas.begun_stands (port_of c.self.inside.seat.me) c.self.inside.lane c.settle.new.lane c.begin.new.self (call.Read c.args.sample)
    c.self.invariant.1 c.settle.ensures.lane c.begin.ensures (sym c.fits.ensures ∙ c.if-not-fits.false)

pub returns-clause-call : goal.returns-clause-call
returns-clause-call g c =
    let new : SubscriberPort = record {
      table = c.finish.new.seat.table_id;
      port = port_of c.finish.new.seat.me;
      lane = settled c.finish.new.lane;
      words = words_read c.finish.new.lane.port.call c.finish.new.lane.port.words;
    } in
    lemmas.read_done c.args.self.now new (port_of c.self.inside.seat.me) c.args.sample c.settle.new.lane c.begin.new.self c.finish.new.lane
    (ap (λ (v : SubscriberPort). v.port) (sym c.self.view_is))
    (ap (λ (v : SubscriberPort). v.lane) (sym c.self.view_is) ∙ sym c.settle.ensures.lane)
    (sym c.fits.ensures ∙ c.if-not-fits.false) c.begin.ensures
    c.finish.ensures.goes c.finish.ensures.over refl refl

pub returns-clause-words : goal.returns-clause-words
returns-clause-words g c = λ e.
    let begun = lemmas.begun_stands (port_of c.self.inside.seat.me) c.self.inside.lane c.settle.new.lane c.begin.new.self
    (call.Read c.args.sample) c.self.invariant.1 c.settle.ensures.lane c.begin.ensures (sym c.fits.ensures ∙ c.if-not-fits.false) in
    read_words_known (port_of c.self.inside.seat.me) (port_of c.finish.new.seat.me) c.args.self.now.lane c.settle.new.lane
    c.begin.new.self c.finish.new.lane c.args.sample (words_read c.finish.new.lane.port.call c.finish.new.lane.port.words) begun
    (ap (λ (v : SubscriberPort). v.lane) (sym c.self.view_is) ∙ sym c.settle.ensures.lane) c.begin.ensures c.finish.ensures.goes
    c.finish.ensures.over refl

pub returns-clause-whole : goal.returns-clause-whole
returns-clause-whole g c = λ e.
    let begun = lemmas.begun_stands (port_of c.self.inside.seat.me) c.self.inside.lane c.settle.new.lane c.begin.new.self
    (call.Read c.args.sample) c.self.invariant.1 c.settle.ensures.lane c.begin.ensures (sym c.fits.ensures ∙ c.if-not-fits.false) in
    read_whole (port_of c.self.inside.seat.me) (port_of c.finish.new.seat.me) c.args.self.now.lane c.settle.new.lane c.begin.new.self
    c.finish.new.lane c.args.sample (words_read c.finish.new.lane.port.call c.finish.new.lane.port.words) begun
    c.finish.ensures.stands c.finish.ensures.seat.1
    (ap (λ (v : SubscriberPort). v.lane) (sym c.self.view_is) ∙ sym c.settle.ensures.lane) c.begin.ensures c.finish.ensures.goes
    c.finish.ensures.over refl

pub returns-clause-listed : goal.returns-clause-listed
returns-clause-listed g c = λ e.
    let begun = lemmas.begun_stands (port_of c.self.inside.seat.me) c.self.inside.lane c.settle.new.lane c.begin.new.self
    (call.Read c.args.sample) c.self.invariant.1 c.settle.ensures.lane c.begin.ensures (sym c.fits.ensures ∙ c.if-not-fits.false) in
    read_listed (port_of c.self.inside.seat.me) (port_of c.finish.new.seat.me) c.args.self.now.lane c.settle.new.lane
    c.begin.new.self c.finish.new.lane c.args.sample begun
    (ap (λ (v : SubscriberPort). v.lane) (sym c.self.view_is) ∙ sym c.settle.ensures.lane)
    (sym c.fits.ensures ∙ c.if-not-fits.false) c.begin.ensures c.finish.ensures.goes c.finish.ensures.over

pub returns-clause-stood : goal.returns-clause-stood
returns-clause-stood g c = lemmas.stood c.args.self.now (port_of c.self.inside.seat.me) c.self.inside.lane
    (ap (λ (v : SubscriberPort). v.port) (sym c.self.view_is)) (ap (λ (v : SubscriberPort). v.lane) (sym c.self.view_is))
    c.self.invariant.1 c.self.invariant.2

pub returns-then-not-fits-clause-stood : goal.returns-then-not-fits-clause-stood
returns-then-not-fits-clause-stood g c = lemmas.stood c.args.self.now (port_of c.self.inside.seat.me) c.self.inside.lane
    (ap (λ (v : SubscriberPort). v.port) (sym c.self.view_is)) (ap (λ (v : SubscriberPort). v.lane) (sym c.self.view_is))
    c.self.invariant.1 c.self.invariant.2
