use Rattle.std.proofs.Common.{ℕ, ◌≡◌, ◌+◌, ◌<◌, refl, subst, arith, ◌∙◌}
use Rattle.std.proofs.lemmas.Grind.{common_steps}
use Rattle.iox_lanes_machine.specs.LanesBase.Subscribing.{read_at}
use Rattle.iox_lanes_machine.specs.LanesBase.declared.calls.subscriber.SubscriberCall.{SubscriberCall}
use Rattle.iox_lanes_machine.specs.LanesBase.declared.calls.subscriber.SubscriberCall.TheVariants as subscribing
use Rattle.iox_lanes_machine.specs.LanesParties.Parties.{subscriber_after}
use Rattle.iox_lanes_threads_rule.specs.Acts.{port_of}
use Rattle.iox_lanes_threads_ports.specs.Ports.{SubscriberStands}
use Rattle.iox_lanes_threads_ports.specs.Strides.{subscriber_called, SubscriberStrode}
use Rattle.iox_lanes_threads_ports.proofs.Striding.{strode_none}
use Rattle.iox_lanes_threads_ports.proofs.SubscriberStriding.{subscriber_goes_ahead, strode_same, at_first, reads_at}
use Rattle.iox_lanes_threads_ports.proofs.subscriber_strides.read_words.Goals as goal

pub loop-word-init : goal.loop-word-init
loop-word-init g c = (
  refl,
  refl,
  let some : 0 < 3 + c.args.sample.extent.user_header_words + c.args.sample.extent.payload_words = omega arith in
      subst (SubscriberStrode (port_of c.args.seat.now.me) c.args.lane.now c.args.seat.now.me)
      (at_first c.args.lane.now (subscribing.Reading c.args.sample.slot 0 c.args.sample.extent) (read_at c.args.sample.slot
      c.args.sample.extent 0) c.requires.call
      (reads_at c.args.sample.slot 0 c.args.sample.extent some))
      (strode_none subscriber_goes_ahead c.args.seat.now.me c.args.lane.now c.requires.seat.0 c.requires.stands),
)

pub read_word-requires-clause-stands : goal.read_word-requires-clause-stands
read_word-requires-clause-stands g c =
    let some : c.loop-word.word < 3 + c.args.sample.extent.user_header_words + c.args.sample.extent.payload_words = omega arith in
    subst (λ (call : SubscriberCall). SubscriberStands (port_of c.loop-word.seat.me) (subscriber_called call c.loop-word.lane))
    (reads_at c.args.sample.slot c.loop-word.word c.args.sample.extent some) c.loop-word.invariant.2.stands

pub loop-word-2-init : goal.loop-word-2-init
loop-word-2-init g c = (
  c.loop-word.invariant.0,
  c.loop-word.invariant.1,
  let ended : c.loop-word.word ≡ c.min-row.result = omega arith in
      subst (λ (word : ℕ). SubscriberStrode (port_of c.args.seat.now.me) c.args.lane.now c.loop-word.seat.me
      (subscriber_called (read_at c.args.sample.slot c.args.sample.extent word) c.loop-word.lane)) ended c.loop-word.invariant.2,
)

pub loop-word-preserved : goal.loop-word-preserved
loop-word-preserved g c =
    let some : c.loop-word.word < 3 + c.args.sample.extent.user_header_words + c.args.sample.extent.payload_words = omega arith in
    let reads : SubscriberStrode (port_of c.args.seat.now.me) c.args.lane.now c.loop-word.seat.me
    (subscriber_called (subscribing.Reading c.args.sample.slot c.loop-word.word c.args.sample.extent) c.loop-word.lane) =
    subst (λ (call : SubscriberCall). SubscriberStrode (port_of c.args.seat.now.me) c.args.lane.now c.loop-word.seat.me
    (subscriber_called call c.loop-word.lane)) (reads_at c.args.sample.slot c.loop-word.word c.args.sample.extent some)
    c.loop-word.invariant.2 in (
      c.read_word.ensures.table.0 ∙ c.loop-word.invariant.0,
      c.read_word.ensures.table.1 ∙ c.loop-word.invariant.1,
      c.read_word.ensures.strode (port_of c.args.seat.now.me) c.args.lane.now reads,
    )

pub loop-word-2-preserved : goal.loop-word-2-preserved
loop-word-2-preserved g c =
    let some : c.loop-word-2.word < 3 + c.args.sample.extent.user_header_words + c.args.sample.extent.payload_words = omega arith in
    let reads : SubscriberStrode (port_of c.args.seat.now.me) c.args.lane.now c.loop-word-2.seat.me
    (subscriber_called (subscribing.Reading c.args.sample.slot c.loop-word-2.word c.args.sample.extent) c.loop-word-2.lane) =
    subst (λ (call : SubscriberCall). SubscriberStrode (port_of c.args.seat.now.me) c.args.lane.now c.loop-word-2.seat.me
    (subscriber_called call c.loop-word-2.lane)) (reads_at c.args.sample.slot c.loop-word-2.word c.args.sample.extent some)
    c.loop-word-2.invariant.2 in (
      c.read_word-in-loop-word-2.ensures.table.0 ∙ c.loop-word-2.invariant.0,
      c.read_word-in-loop-word-2.ensures.table.1 ∙ c.loop-word-2.invariant.1,
      c.read_word-in-loop-word-2.ensures.strode (port_of c.args.seat.now.me) c.args.lane.now reads,
    )

pub read_word-requires-in-loop-word-2-clause-stands : goal.read_word-requires-in-loop-word-2-clause-stands
read_word-requires-in-loop-word-2-clause-stands g c =
    let some : c.loop-word-2.word < 3 + c.args.sample.extent.user_header_words + c.args.sample.extent.payload_words = omega arith in
    subst (λ (call : SubscriberCall). SubscriberStands (port_of c.loop-word-2.seat.me) (subscriber_called call c.loop-word-2.lane))
    (reads_at c.args.sample.slot c.loop-word-2.word c.args.sample.extent some) c.loop-word-2.invariant.2.stands

pub access_ahead-value-requires-clause-stands : goal.access_ahead-value-requires-clause-stands
access_ahead-value-requires-clause-stands g c =
    let ended : c.loop-word-2.word ≡ 2 + c.args.sample.extent.user_header_words + c.args.sample.extent.payload_words = omega arith in
    let some : c.loop-word-2.word < 3 + c.args.sample.extent.user_header_words + c.args.sample.extent.payload_words = omega arith in
    subst (λ (word : ℕ). SubscriberStands (port_of c.loop-word-2.seat.me)
    (subscriber_called (subscribing.Reading c.args.sample.slot word c.args.sample.extent) c.loop-word-2.lane)) ended
    (subst (λ (call : SubscriberCall). SubscriberStands (port_of c.loop-word-2.seat.me) (subscriber_called call c.loop-word-2.lane))
    (reads_at c.args.sample.slot c.loop-word-2.word c.args.sample.extent some) c.loop-word-2.invariant.2.stands)

pub returns-clause-strode : goal.returns-clause-strode
returns-clause-strode g c =
    let last : ℕ = 2 + c.args.sample.extent.user_header_words + c.args.sample.extent.payload_words in
    let ended : c.loop-word-2.word ≡ 2 + c.args.sample.extent.user_header_words + c.args.sample.extent.payload_words = omega arith in
    let some : 2 + c.args.sample.extent.user_header_words + c.args.sample.extent.payload_words
    < 3 + c.args.sample.extent.user_header_words + c.args.sample.extent.payload_words = omega arith in
    let at_last : SubscriberStrode (port_of c.args.seat.now.me) c.args.lane.now c.loop-word-2.seat.me
    (subscriber_called (read_at c.args.sample.slot c.args.sample.extent last) c.loop-word-2.lane) =
    subst (λ (word : ℕ). SubscriberStrode (port_of c.args.seat.now.me) c.args.lane.now c.loop-word-2.seat.me
    (subscriber_called (read_at c.args.sample.slot c.args.sample.extent word) c.loop-word-2.lane)) ended c.loop-word-2.invariant.2 in
    let reads : SubscriberStrode (port_of c.args.seat.now.me) c.args.lane.now c.loop-word-2.seat.me
    (subscriber_called (subscribing.Reading c.args.sample.slot last c.args.sample.extent) c.loop-word-2.lane) =
    subst (λ (call : SubscriberCall). SubscriberStrode (port_of c.args.seat.now.me) c.args.lane.now c.loop-word-2.seat.me
    (subscriber_called call c.loop-word-2.lane)) (reads_at c.args.sample.slot last c.args.sample.extent some) at_last in
    strode_same (port_of c.args.seat.now.me) c.args.lane.now c.access_ahead-value.new.seat.me c.go_on_from.new.self
    (subscriber_after c.access_ahead-value.result
    (subscriber_called (subscribing.Reading c.args.sample.slot last c.args.sample.extent) c.loop-word-2.lane)) c.go_on_from.ensures
    (c.access_ahead-value.ensures.strode tt (port_of c.args.seat.now.me) c.args.lane.now 0 reads)

pub returns-clause-table : goal.returns-clause-table
returns-clause-table g c = grind (arith, common_steps)

pub returns-clause-call : goal.returns-clause-call
returns-clause-call g c = grind (arith, common_steps)
