-- Several steps of a subscriber, which its lane makes up for at once.
use Rattle.std.proofs.Common.{ℕ, ◌≡◌, ◌+◌, ◌<◌, Bool, true, false, if◌then◌else◌, nat_lt, refl, sym, ◌∙◌, ap, subst, arith}
use Rattle.std.proofs.lemmas.Bool.{lt-ltb}
use Rattle.atomic_table.specs.Table.{Me}
use Rattle.iox_lanes_machine.specs.QueuesSteps.Access.{successor}
use Rattle.iox_lanes_machine.specs.LanesBase.Numbers.{IsSmall}
use Rattle.iox_lanes_machine.specs.LanesBase.Subscribing.{subscriber_next, read_at}
use Rattle.iox_lanes_machine.specs.LanesBase.declared.words.sizes.TableSizes.{TableSizes}
use Rattle.iox_lanes_machine.specs.LanesBase.declared.calls.subscriber.SlotExtent.{SlotExtent}
use Rattle.iox_lanes_machine.specs.LanesBase.declared.calls.subscriber.SubscriberCall.{SubscriberCall}
use Rattle.iox_lanes_machine.specs.LanesBase.declared.calls.subscriber.SubscriberCall.TheVariants as subscribing
use Rattle.iox_lanes_machine.specs.LanesBase.declared.calls.subscriber.SubscriberChange.TheVariants.{Note}
use Rattle.iox_lanes_machine.specs.LanesParties.Keeping.{changed}
use Rattle.iox_lanes_machine.specs.LanesParties.Parties.{SubscriberLaneState, subscriber_after}
use Rattle.iox_lanes_threads_rule.specs.Acts.{single, port_of}
use Rattle.iox_lanes_threads_rule.specs.declared.view.Port.{Port}
use Rattle.iox_lanes_threads_rule.specs.declared.view.View.{View}
use Rattle.iox_lanes_threads_ports.specs.Courses.{subscriber_party, SubscriberGoes, SubscriberSteps}
use Rattle.iox_lanes_threads_ports.specs.Courses.SubscriberGoes.{stays, goes}
use Rattle.iox_lanes_threads_ports.specs.Ports.{SubscriberStands}
use Rattle.iox_lanes_threads_ports.specs.Strides.{subscriber_called, SubscriberStrode, subscribers, GoesAhead}
use Rattle.iox_lanes_threads_ports.proofs.Coming.{subscriber_makes}
use Rattle.iox_lanes_threads_ports.proofs.Striding.{strode_moved, strode_none}
use Rattle.iox_lanes_threads_ports.proofs.SubscriberSteps as steps
use Rattle.iox_lanes_threads_ports.proofs.Running.{Subscribes}

-- accesses may be made ahead of a subscriber
pub subscriber_goes_ahead : GoesAhead SubscriberLaneState SubscriberCall subscribers
subscriber_goes_ahead = record {
  itself = λ lane. refl;
  may = λ p call lane stands. steps.may_act p (subscriber_called call lane) stands;
  makes = λ p call lane stands. subscriber_makes p.party (subscriber_called call lane) stands.comes;
  stays = λ p lane. stays;
  goes = λ p begun made q call lane answer stands strides touches told. (
    steps.goes_on q (subscriber_called call lane) stands answer told,
    goes q (subscriber_called call lane) answer strides told,
  );
}

-- steps that were made are those of a subscriber in progress
pub strode_subscribes : (p : Port) (lane : SubscriberLaneState) (me : Me ℕ View) (now : SubscriberLaneState)
    → SubscriberStrode p lane me now → Subscribes p lane me now
strode_subscribes p lane me now run
    = record { seat = record { alone = run.alone; service = run.service; name = run.name }; stands = run.stands; goes = run.strides }

-- steps to a lane are steps to the same lane
pub strode_same : (p : Port) (begun : SubscriberLaneState) (me : Me ℕ View) (lane now : SubscriberLaneState) → lane ≡ now
    → SubscriberStrode p begun me now → SubscriberStrode p begun me lane
strode_same p begun me lane now same strode = subst (SubscriberStrode p begun me) (sym same) strode

-- a call that stands there
pub at_first : (lane : SubscriberLaneState) (call there : SubscriberCall) → lane.port.call ≡ call → there ≡ call
    → lane ≡ subscriber_called there lane
at_first lane call there is same = ap (λ (c : SubscriberCall). subscriber_called c lane) (is ∙ sym same)

read_by : (slot k : ℕ) (extent : SlotExtent) (b : Bool) → b ≡ true
    → (if b then subscribing.Reading slot k extent else subscribing.WasRead slot) ≡ subscribing.Reading slot k extent
read_by slot k extent true e = refl
read_by slot k extent false e = absurd (cc e)

-- a read stands at a word of its sample
pub reads_at : (slot k : ℕ) (extent : SlotExtent) → k < 3 + extent.user_header_words + extent.payload_words
    → read_at slot extent k ≡ subscribing.Reading slot k extent
reads_at slot k extent less = read_by slot k extent (nat_lt k (3 + extent.user_header_words + extent.payload_words))
    (lt-ltb k (3 + extent.user_header_words + extent.payload_words) less)

-- and goes on to the next word once it has kept this one
pub read_on : (lane now : SubscriberLaneState) (slot word value : ℕ) (extent : SlotExtent) (sizes : TableSizes) → IsSmall sizes
    → word < 3 + sizes.user_header_words + sizes.payload_words → now ≡ record lane { port = changed (Note word value) lane.port }
    → subscriber_after value (subscriber_called (subscribing.Reading slot word extent) lane)
    ≡ subscriber_called (read_at slot extent (word + 1)) now
read_on lane now slot word value extent sizes small within is =
    let all = small.slot in
    let next : successor word ≡ word + 1 = omega (arith, within, all) in
    ap (λ (k : ℕ). subscriber_called (read_at slot extent k) (record lane { port = changed (Note word value) lane.port })) next
    ∙ ap (subscriber_called (read_at slot extent (word + 1))) (sym is)

-- one step
pub strode_once : (me me' : Me ℕ View) (lane lane' : SubscriberLaneState) → me ≡ single (port_of me)
    → SubscriberStands (port_of me) lane → SubscriberSteps (port_of me) lane me' lane' → SubscriberStrode (port_of me) lane me' lane'
strode_once me me' lane lane' alone stands step =
    subst (SubscriberStrode (port_of me) lane me') (sym step.3)
    (strode_moved SubscriberStands (SubscriberGoes (port_of me) lane) (SubscriberGoes (port_of me) lane) (port_of me) me me' lane
    (subscriber_after step.0 lane) (subscriber_next lane.port.call) step.0 (subscriber_party lane)
    (strode_none subscriber_goes_ahead me lane alone stands) (steps.goes_on (port_of me) lane stands step.0 step.1)
    (goes (port_of me) lane step.0 stays step.1) step.2)

-- steps after steps
goes_along : (p : Port) (lane : SubscriberLaneState) (q : Port) (now : SubscriberLaneState) (q' : Port) (now' : SubscriberLaneState)
    → SubscriberGoes p lane q now → SubscriberGoes q now q' now' → SubscriberGoes p lane q' now'
goes_along p lane q now q' now' before stays = before
goes_along p lane q now q' now' before (goes r mid answer more told) = goes r mid answer (goes_along p lane q now r mid before more) told

pub subscribes_along : (p : Port) (lane : SubscriberLaneState) (me : Me ℕ View) (now : SubscriberLaneState) (me' : Me ℕ View)
    (now' : SubscriberLaneState) → Subscribes p lane me now → SubscriberStrode (port_of me) now me' now' → Subscribes p lane me' now'
subscribes_along p lane me now me' now' run strode = record {
  seat = record { alone = strode.alone; service = strode.service ∙ run.seat.service; name = strode.name ∙ run.seat.name };
  stands = strode.stands;
  goes = goes_along p lane (port_of me) now (port_of me') now' run.goes strode.strides;
}
