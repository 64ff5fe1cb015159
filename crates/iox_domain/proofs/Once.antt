-- A send puts its message into each mailbox at most once.
use Rattle.std.proofs.Common.{arith, ◌≡◌, ◌+◌, ◌-◌, ◌<◌, ◌≤◌, ◌||◌, ◌⊎◌, ℕ, zero, suc, Bool, true, false, get_or, length, nat_lt, Option}
use Rattle.std.proofs.Common.{None, Some, Result, refl, sym, ap, ◌∙◌, if◌then◌else◌, inl, inr}
use Rattle.std.proofs.lemmas.Bool.{cases_eq, cases_lt}
use Rattle.std.proofs.lemmas.List.{get_or-set_other, get_or-set_same, get_or_past}
use Rattle.iox_domain.specs.DomainValues.declared.backpressure.BackpressureDecision.{BackpressureDecision}
use Rattle.iox_domain.specs.DomainValues.declared.backpressure.BackpressureDecision.TheVariants as decided
use Rattle.iox_domain.specs.DomainValues.declared.backpressure.BackpressureInfo.{BackpressureInfo}
use Rattle.iox_domain.specs.DomainValues.declared.port_error.SendError.{SendError}
use Rattle.iox_domain.specs.DomainSlots.Uses.{Connection, accepts, nobody, offered}
use Rattle.iox_domain.specs.DomainPorts.Messages.{Message}
use Rattle.iox_domain.specs.DomainPorts.Places.{unheard}
use Rattle.iox_domain.specs.DomainPorts.Ports.{connection_of, goes_on, is_live}
use Rattle.iox_domain.specs.DomainPorts.Progress.{ProgressState}
use Rattle.iox_domain.specs.DomainPorts.Sending.{with_progress, with_message, met_by, met, meeting_at, meeting_by, is_ready, decided_by}
use Rattle.iox_domain.specs.DomainPorts.Sending.{goes_on_by, Steps, GoesOn, Delivers, concluded, Finishes}
use Rattle.iox_domain.specs.DomainPorts.declared.meeting.Meeting.{Meeting}
use Rattle.iox_domain.specs.DomainPorts.declared.meeting.Meeting.TheVariants as meeting
use Rattle.iox_domain.specs.DomainPorts.declared.meeting.Sent.{Sent}
use Rattle.iox_domain.specs.DomainPorts.declared.publisher_port.PublisherPort.{PublisherPort}
use Rattle.iox_domain.specs.DomainPorts.declared.reader.Reader.{Reader}
use Rattle.iox_domain.specs.PortLawsLaws.{AreTiesApart, GotAtMostOnce}

-- what a mailbox got of a message that came to where a place is tied to
abbrev GotThere : {T U : Type 0} → Option ℕ → ℕ → PublisherPort T U → PublisherPort T U → Type 0
GotThere {T} {U} tie index old new =
    (connection_of index new ≡ connection_of index old)
    ⊎ ((message : Message T U) × (tie ≡ Some index) × (old.sender.uses.sending ≡ Some message)
    × (connection_of index new ≡ offered old.sender.uses.overflows message (connection_of index old)))

-- who reads where, whether the publisher stands, its history and the last number of its messages are as before
pub record Rest {T U : Type 0} (old new : PublisherPort T U) : Type 0 where
  pub readers : new.readers ≡ old.readers
  pub stands : new.stands ≡ old.stands
  pub history : new.sender.uses.history ≡ old.sender.uses.history
  pub sequence : new.last_sequence ≡ old.last_sequence

-- what a message leaves as it is
pub record Same {T U : Type 0} (old new : PublisherPort T U) : Type 0 where
  pub ties : new.ties ≡ old.ties
  pub sending : new.sender.uses.sending ≡ old.sender.uses.sending
  pub overflows : new.sender.uses.overflows ≡ old.sender.uses.overflows
  pub rest : Rest old new

pub same_on : {T U : Type 0} (old between new : PublisherPort T U) → Same old between → Same between new → Same old new
same_on old between new one two = record {
  ties = two.ties ∙ one.ties;
  sending = two.sending ∙ one.sending;
  overflows = two.overflows ∙ one.overflows;
  rest = record {
    readers = two.rest.readers ∙ one.rest.readers;
    stands = two.rest.stands ∙ one.rest.stands;
    history = two.rest.history ∙ one.rest.history;
    sequence = two.rest.sequence ∙ one.rest.sequence;
  };
}

-- only the progress may have changed
pub same_progress : {T U : Type 0} (old new : PublisherPort T U) (progress : ProgressState) → new ≡ with_progress progress old
    → Same old new
same_progress old new progress is = record {
  ties = ap (λ port. port.ties) is;
  sending = ap (λ port. port.sender.uses.sending) is;
  overflows = ap (λ port. port.sender.uses.overflows) is;
  rest = record {
    readers = ap (λ port. port.readers) is;
    stands = ap (λ port. port.stands) is;
    history = ap (λ port. port.sender.uses.history) is;
    sequence = ap (λ port. port.last_sequence) is;
  };
}

same_is : {T U : Type 0} (old new : PublisherPort T U) → new ≡ old → Same old new
same_is old new is = same_progress old new old.progress is

message_same : {T U : Type 0} (index : ℕ) (message : Option (Message T U)) (port : PublisherPort T U)
    → Same port (with_message index message port) × ((with_message index message port).progress ≡ port.progress)
message_same index None port = (same_is port port refl, refl)
message_same index (Some message) port = (
  record {
    ties = refl;
    sending = refl;
    overflows = refl;
    rest = record { readers = refl; stands = refl; history = refl; sequence = refl };
  },
  refl,
)

put_same : {T U : Type 0} (live : Bool) (index : ℕ) (port : PublisherPort T U)
    → Same port (if live then with_message index port.sender.uses.sending port else port)
    × ((if live then with_message index port.sender.uses.sending port else port).progress ≡ port.progress)
put_same true index port = message_same index port.sender.uses.sending port
put_same false index port = (same_is port port refl, refl)

pub met_same : {T U : Type 0} (tie : Option ℕ) (port : PublisherPort T U) → Same port (met_by tie port)
    × ((met_by tie port).progress ≡ port.progress)
met_same None port = (same_is port port refl, refl)
met_same (Some index) port = put_same (is_live index port) index port

-- a connection that goes on is there
pub live_within : {T U : Type 0} (index : ℕ) (port : PublisherPort T U) → is_live index port ≡ true
    → index < length port.sender.uses.connections
live_within index port live = elim (cases_lt index (length port.sender.uses.connections)) [
  | inl within ↦ within
  | inr past ↦
      let no : false ≡ true = sym (ap (λ one. goes_on one.stage) (get_or_past port.sender.uses.connections index nobody past)) ∙ live in
      absurd (cc)
]

message_got : {T U : Type 0} (at index : ℕ) (message : Option (Message T U)) (port : PublisherPort T U)
    → port.sender.uses.sending ≡ message → is_live at port ≡ true → GotThere (Some at) index port (with_message at message port)
message_got at index None port sending live = inl refl
message_got at index (Some message) port sending live = elim (cases_eq index at) [
  | inl same ↦ inr (
    message,
    ap (λ n. Some n) (sym same),
    sending,
    ap (λ n. connection_of n (with_message at (Some message) port)) same
        ∙ get_or-set_same port.sender.uses.connections at (offered port.sender.uses.overflows message (connection_of at port)) nobody
        (live_within at port live)
        ∙ ap (λ n. offered port.sender.uses.overflows message (connection_of n port)) (sym same),
  )
  | inr not ↦ inl (get_or-set_other port.sender.uses.connections at index
      (offered port.sender.uses.overflows message (connection_of at port)) nobody not)
]

put_got : {T U : Type 0} (live : Bool) (at index : ℕ) (port : PublisherPort T U) → is_live at port ≡ live
    → GotThere (Some at) index port (if live then with_message at port.sender.uses.sending port else port)
put_got true at index port is = message_got at index port.sender.uses.sending port refl is
put_got false at index port is = inl refl

pub met_got : {T U : Type 0} (tie : Option ℕ) (index : ℕ) (port : PublisherPort T U) → GotThere tie index port (met_by tie port)
met_got None index port = inl refl
met_got (Some at) index port = put_got (is_live at port) at index port refl

-- a full mailbox that lets nothing go stays as it is
neither : (a b : Bool) → (a || b) ≡ false → (a ≡ false) × (b ≡ false)
neither true b is = absurd (cc)
neither false b is = (refl, is)

pub offered_full : {T U : Type 0} (overflows : Bool) (message : Message T U) (connection : Connection (Message T U))
    → accepts overflows connection ≡ false → offered overflows message connection ≡ connection
offered_full {T} {U} overflows message connection full =
    let both = neither overflows (nat_lt (length connection.waiting) connection.limit) full in
    let kept : (offered overflows message connection).waiting ≡ connection.waiting = rw (both.0) (rw (both.1) refl) in
    ap (λ waiting. record connection { waiting = waiting }) kept

-- what comes at a mailbox that isn't ready, or accepts, is no full one
unheard_over : (reader : Option Reader) → unheard reader ≡ meeting.Over → ⊥
unheard_over None is = cc
unheard_over (Some reader) is = if_over reader.attached is where
  if_over : (attached : Bool) → (if attached then meeting.Full reader.subscriber else meeting.Passed) ≡ meeting.Over → ⊥
  if_over true is = cc
  if_over false is = cc

meeting_over : (ready accepted : Bool) (reader : Option Reader)
    → (if ready then (if accepted then meeting.Delivered else unheard reader) else meeting.Passed) ≡ meeting.Over → ⊥
meeting_over true true reader is = cc
meeting_over true false reader is = unheard_over reader is
meeting_over false accepted reader is = cc

meeting_full : (ready accepted : Bool) (reader : Option Reader) (subscriber : ℕ)
    → (if ready then (if accepted then meeting.Delivered else unheard reader) else meeting.Passed) ≡ meeting.Full subscriber
    → accepted ≡ false
meeting_full true true reader subscriber is = cc
meeting_full true false reader subscriber is = refl
meeting_full false accepted reader subscriber is = cc

-- where the send is blocked, no mailbox changed
quiet_by : {T U : Type 0} (index : ℕ) (tie : Option ℕ) (port : PublisherPort T U) → (meeting_by tie port ≡ meeting.Over)
    ⊎ ((subscriber : ℕ) × (meeting_by tie port ≡ meeting.Full subscriber))
    → connection_of index (met_by tie port) ≡ connection_of index port
quiet_by index None port waits = refl
quiet_by index (Some at) port (inl over)
    = absurd (meeting_over (is_ready at port) (accepts port.sender.uses.overflows (connection_of at port)) (get_or port.readers at None)
    over)
quiet_by {T} {U} index (Some at) port (inr full) =
    let accepted = meeting_full (is_ready at port) (accepts port.sender.uses.overflows (connection_of at port))
    (get_or port.readers at None) full.0 full.1 in
    same (met_got (Some at) index port) accepted
  where
    same : GotThere (Some at) index port (met_by (Some at) port) → accepts port.sender.uses.overflows (connection_of at port) ≡ false
        → connection_of index (met_by (Some at) port) ≡ connection_of index port
    same (inl is) accepted = is
    same (inr got) accepted =
        let (message, tie, sending, is) = got in
        let at_index : at ≡ index = cc in
        is ∙ offered_full port.sender.uses.overflows message (connection_of index port)
        (ap (λ n. accepts port.sender.uses.overflows (connection_of n port)) (sym at_index) ∙ accepted)

quiet : {T U : Type 0} (index place : ℕ) (there : Bool) (port : PublisherPort T U) → nat_lt place (length port.ties.items) ≡ there
    → ((if there then meeting_by (get_or port.ties.items place None) port else meeting.Over) ≡ meeting.Over)
    ⊎ ((subscriber : ℕ) × ((if there then meeting_by (get_or port.ties.items place None) port else meeting.Over)
    ≡ meeting.Full subscriber))
    → connection_of index (met place port) ≡ connection_of index port
quiet index place true port is waits = quiet_by index (get_or port.ties.items place None) port waits
quiet index place false port is waits =
    let past : length port.ties.items ≤ place = grind (arith, is) in
    ap (λ tie. connection_of index (met_by tie port)) (get_or_past port.ties.items place None past)

-- The effect of a step of a send at one place.
pub record StepGot {T U : Type 0} (went : Bool) (old new : PublisherPort T U) : Type 0 where
  pub same : Same old new
  pub goes : went ≡ true → new.progress.place ≡ old.progress.place + 1
  pub waits : went ≡ false → (new.progress.place ≡ old.progress.place) × ((index : ℕ) → connection_of index new ≡ connection_of index old)
  pub got : (index : ℕ) → GotThere (get_or old.ties.items old.progress.place None) index old new

-- the message was put, and the place passed
passes : {T U : Type 0} (went : Bool) (old new : PublisherPort T U) → went ≡ true → new.sender ≡ (met old.progress.place old).sender
    → Same (met old.progress.place old) new
    → new.progress.place ≡ (met old.progress.place old).progress.place + 1 → StepGot went old new
passes {T} {U} went old new goes sender kept place =
    let tie = get_or old.ties.items old.progress.place None in
    let met_port : PublisherPort T U = met old.progress.place old in
    let same = met_same tie old in
    record {
      same = same_on old met_port new same.0 kept;
      goes = λ is. place ∙ ap (λ progress. progress.place + 1) same.1;
      waits = λ is. let no : true ≡ false = sym goes ∙ is in absurd (cc);
      got = λ index. lift index (met_got tie index old);
    }
  where
    lift : (index : ℕ) → GotThere (get_or old.ties.items old.progress.place None) index old (met old.progress.place old)
        → GotThere (get_or old.ties.items old.progress.place None) index old new
    lift index (inl is) = inl (ap (λ one. get_or one.uses.connections index nobody) sender ∙ is)
    lift index (inr got) = inr (got.0, got.1, got.2, ap (λ one. get_or one.uses.connections index nobody) sender ∙ got.3)

-- the send is blocked there
waits_there : {T U : Type 0} (went : Bool) (old new : PublisherPort T U) → went ≡ false → new ≡ met old.progress.place old
    → ((meeting_at old.progress.place old ≡ meeting.Over)
    ⊎ ((subscriber : ℕ) × (meeting_at old.progress.place old ≡ meeting.Full subscriber))) → StepGot went old new
waits_there {T} {U} went old new stays is waits =
    let tie = get_or old.ties.items old.progress.place None in
    let same = met_same tie old in
    let still : (index : ℕ) → connection_of index new ≡ connection_of index old = λ index.
    ap (λ port. connection_of index port) is ∙ quiet index old.progress.place (nat_lt old.progress.place (length old.ties.items)) old
    refl waits in
    record {
      same = same_on old (met old.progress.place old) new same.0 (same_is (met old.progress.place old) new is);
      goes = λ goes. let no : false ≡ true = sym stays ∙ goes in absurd (cc);
      waits = λ stays. (ap (λ port. port.progress.place) is ∙ ap (λ progress. progress.place) same.1, still);
      got = λ index. inl (still index);
    }

decided_got : {T U : Type 0} (went : Bool) (decision : BackpressureDecision) (subscriber : ℕ) (old new : PublisherPort T U)
    → meeting_at old.progress.place old ≡ meeting.Full subscriber → went ≡ goes_on_by decision
    → new ≡ decided_by decision (met old.progress.place old) → StepGot went old new
decided_got went decided.Retry subscriber old new full goes is = waits_there went old new goes is (inr (subscriber, full))
decided_got went decided.DiscardData subscriber old new full goes is
    = passes went old new goes (ap (λ port. port.sender) is) (same_progress _ new _ is) (ap (λ port. port.progress.place) is)
decided_got went decided.DiscardDataAndFail subscriber old new full goes is
    = passes went old new goes (ap (λ port. port.sender) is) (same_progress _ new _ is) (ap (λ port. port.progress.place) is)

pub step_got : {T U : Type 0} (may : BackpressureInfo → BackpressureDecision → Type 0) (came : Meeting) (went : Bool)
    (old new : PublisherPort T U) → meeting_at old.progress.place old ≡ came → Steps may came (met old.progress.place old) went new
    → StepGot went old new
step_got may meeting.Over went old new is steps = waits_there went old new steps.0 steps.1 (inl is)
step_got may meeting.Passed went old new is steps
    = passes went old new steps.0 (ap (λ port. port.sender) steps.1) (same_progress _ new _ steps.1)
    (ap (λ port. port.progress.place) steps.1)
step_got may meeting.Delivered went old new is steps
    = passes went old new steps.0 (ap (λ port. port.sender) steps.1) (same_progress _ new _ steps.1)
    (ap (λ port. port.progress.place) steps.1)
step_got may (meeting.Full subscriber) went old new is steps = decided_got went steps.0 subscriber old new is steps.2 steps.3

-- The effect of a send's steps at several places, one after another.
pub record Gone {T U : Type 0} (old new : PublisherPort T U) : Type 0 where
  pub same : Same old new
  pub forward : old.progress.place ≤ new.progress.place
  pub got : (index : ℕ) → GotAtMostOnce index old new

-- one place, and what comes of those after it
joined : {T U : Type 0} (old next new : PublisherPort T U) → AreTiesApart old → StepGot true old next → Gone next new → Gone old new
joined {T} {U} old next new apart step gone = record {
  same = same_on old next new step.same gone.same;
  forward = omega (arith, step.goes refl, gone.forward);
  got = λ index. both index (step.got index) (gone.got index);
}
  where
    both : (index : ℕ) → GotThere (get_or old.ties.items old.progress.place None) index old next → GotAtMostOnce index next new
        → GotAtMostOnce index old new
    both index (inl first) (inl second) = inl (second ∙ first)
    both index (inr first) (inl second) =
        let (message, tie, sending, is) = first in
        inr (old.progress.place, message, omega arith, omega (arith, step.goes refl, gone.forward), tie, sending, second ∙ is)
    both index (inl first) (inr second) =
        let (place, message, from, to, tie, sending, is) = second in
        inr (
          place,
          message,
          omega (arith, from, step.goes refl),
          to,
          sym (ap (λ ties. get_or ties.items place None) step.same.ties) ∙ tie,
          sym (step.same.sending) ∙ sending,
          is ∙ ap (λ overflows. offered overflows message (connection_of index next)) step.same.overflows ∙ ap
              (λ one. offered old.sender.uses.overflows message one) first,
        )
    both index (inr first) (inr second) =
        let (place, message, from, to, tie, sending, is) = second in
        let there : get_or old.ties.items place None ≡ Some index = sym (ap (λ ties. get_or ties.items place None) step.same.ties) ∙ tie in
        let same : place ≡ old.progress.place = apart place old.progress.place index there first.1 in
        absurd (omega (arith, same, from, step.goes refl))

goes_got : {T U : Type 0} (went arrived : Bool) (old next new : PublisherPort T U) (further : Type 0) → AreTiesApart old
    → StepGot went old next → (further → Gone next new) → GoesOn went arrived next new further → Gone old new
goes_got {T} {U} false arrived old next new further apart step gone goes =
    let still = step.waits refl in
    record {
      same = same_on old next new step.same (same_is next new goes.1);
      forward = omega (arith, still.0, ap (λ port. port.progress.place) goes.1);
      got = λ index. inl (ap (λ port. connection_of index port) goes.1 ∙ still.1 index);
    }
goes_got true arrived old next new further apart step gone goes = joined old next new apart step (gone goes)

pub apart_next : {T U : Type 0} (old next : PublisherPort T U) → next.ties ≡ old.ties → AreTiesApart old → AreTiesApart next
apart_next old next same apart one other index is_one is_other =
    apart one other index (ap (λ ties. get_or ties.items one None) (sym same) ∙ is_one)
    (ap (λ ties. get_or ties.items other None) (sym same) ∙ is_other)

pub delivers_got : {T U : Type 0} (may : BackpressureInfo → BackpressureDecision → Type 0) (places : ℕ) (old new : PublisherPort T U)
    (arrived : Bool) → AreTiesApart old → Delivers may places old arrived new → Gone old new
delivers_got may zero old new arrived apart delivers = record {
  same = same_is old new delivers.1;
  forward = omega (arith, ap (λ port. port.progress.place) delivers.1);
  got = λ index. inl (ap (λ port. connection_of index port) delivers.1);
}
delivers_got {T} {U} may (suc places) old new arrived apart delivers =
    let (went, next, steps, goes) = delivers in
    let step : StepGot went old next = step_got may (meeting_at old.progress.place old) went old next refl steps in
    goes_got went arrived old next new (Delivers may places next arrived new) apart step
    (λ further. delivers_got may places next new arrived (apart_next old next step.same.ties apart) further) goes

pub concluded_same : {T U : Type 0} (arrived : Bool) (index : ℕ) (port : PublisherPort T U)
    → (connection_of index (concluded arrived port) ≡ connection_of index port) × ((concluded arrived port).progress ≡ port.progress)
concluded_same true index port = (refl, refl)
concluded_same false index port = (refl, refl)

pub finishes_once : {T U : Type 0} (decide : BackpressureInfo → BackpressureDecision → Type 0) (old new : PublisherPort T U)
    (answer : Result Sent SendError) (index : ℕ) → AreTiesApart old → Finishes decide old answer new → GotAtMostOnce index old new
finishes_once {T} {U} decide old new answer index apart finishes =
    let (arrived, gone, delivers, is_answer, is_new) = finishes in
    let all : Gone old gone = delivers_got decide (length old.ties.items - old.progress.place) old gone arrived apart delivers in
    let same = concluded_same arrived index gone in
    last gone (ap (λ port. connection_of index port) is_new ∙ same.0)
    (ap (λ port. port.progress.place) is_new ∙ ap (λ progress. progress.place) same.1) (all.got index)
  where
    last : (gone : PublisherPort T U) → connection_of index new ≡ connection_of index gone → new.progress.place ≡ gone.progress.place
        → GotAtMostOnce index old gone → GotAtMostOnce index old new
    last gone is place (inl same) = inl (is ∙ same)
    last gone is place (inr got) =
        let (at, message, from, to, tie, sending, put_there) = got in
        inr (at, message, from, omega (arith, to, place), tie, sending, is ∙ put_there)
