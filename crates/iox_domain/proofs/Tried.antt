-- Who takes the message of a send, in one try and in all of them.
use Rattle.std.proofs.Common.{arith, ◌≡◌, ◌≢◌, ◌+◌, ◌-◌, ◌<◌, ◌≤◌, ◌&&◌, ◌==◌, ◌⊎◌, ◌++◌, ◌∷◌, [], ℕ, zero, suc, Bool, true, false}
use Rattle.std.proofs.Common.{is_some, List, get_or, length, length-append, nat_lt, Option, None, Some, Result, Ok, Err, refl, sym, ap}
use Rattle.std.proofs.Common.{◌∙◌, subst, if◌then◌else◌, inl, inr}
use Rattle.std.proofs.lemmas.Bool.{cases_eq, eq-eqb, eqb-true}
use Rattle.std.proofs.lemmas.List.{get_or-set_other, get_or-set_same, get_or_past}
use Rattle.iox_domain.specs.DomainValues.declared.backpressure.BackpressureDecision.{BackpressureDecision}
use Rattle.iox_domain.specs.DomainValues.declared.backpressure.BackpressureDecision.TheVariants as decided
use Rattle.iox_domain.specs.DomainValues.declared.backpressure.BackpressureInfo.{BackpressureInfo}
use Rattle.iox_domain.specs.DomainValues.declared.port_error.SendError.{SendError}
use Rattle.iox_domain.specs.DomainValues.declared.port_error.SendError.TheVariants as sending
use Rattle.iox_domain.specs.DomainSlots.Uses.{accepts, nobody, offered}
use Rattle.iox_domain.specs.DomainPorts.Messages.{Message}
use Rattle.iox_domain.specs.DomainPorts.Places.{unheard}
use Rattle.iox_domain.specs.DomainPorts.Ports.{connection_of, goes_on, is_live}
use Rattle.iox_domain.specs.DomainPorts.Progress.{ProgressState}
use Rattle.iox_domain.specs.DomainPorts.Sending.{with_message, met_by, met, meeting_at, meeting_by, is_ready, decided_by, Steps, GoesOn}
use Rattle.iox_domain.specs.DomainPorts.Sending.{Delivers, concluded, sent_answer, Finishes}
use Rattle.iox_domain.specs.DomainPorts.declared.meeting.Meeting.{Meeting}
use Rattle.iox_domain.specs.DomainPorts.declared.meeting.Meeting.TheVariants as meeting
use Rattle.iox_domain.specs.DomainPorts.declared.meeting.Sent.{Sent}
use Rattle.iox_domain.specs.DomainPorts.declared.meeting.Sent.TheVariants as sent
use Rattle.iox_domain.specs.DomainPorts.declared.publisher_port.PublisherPort.{PublisherPort}
use Rattle.iox_domain.specs.DomainPorts.declared.reader.Reader.{Reader}
use Rattle.iox_domain.specs.PortsPublishing.{is_blocked, GivesUpIf}
use Rattle.iox_domain.specs.PortLawsLaws.{AreTiesApart}
use Rattle.iox_domain.specs.Tries.{how_often, Took, TryComesTo, Try, AreTries, TriesComeTo, all_takers, SendReachesOnce}
use Rattle.iox_domain.proofs.Once.{StepGot, step_got, offered_full, met_same, met_got, live_within, apart_next, concluded_same}

-- how often one stands in a list
once_here : (index : ℕ) (rest : List ℕ) → how_often index (index ∷ rest) ≡ 1 + how_often index rest
once_here index rest = ap (λ b. (if b then 1 else 0) + how_often index rest) (eq-eqb index index refl)

not_here : (index at : ℕ) (rest : List ℕ) → index ≢ at → how_often index (at ∷ rest) ≡ how_often index rest
not_here index at rest not = by_case (index == at) refl
  where
    by_case : (b : Bool) → (index == at) ≡ b → how_often index (at ∷ rest) ≡ how_often index rest
    by_case true is = absurd (not (eqb-true index at is))
    by_case false is = omega (arith, ap (λ b. (if b then 1 else 0) + how_often index rest) is)

often_both : (index : ℕ) (one other : List ℕ) → how_often index (one ++ other) ≡ how_often index one + how_often index other
often_both index [] other = omega arith
often_both index (x ∷ xs) other = omega (arith, often_both index xs other)

-- A place without effect: no mailbox changed, and no delivery is counted; its connection, if it has one, didn't accept the message.
record Quiet {T U : Type 0} (old new : PublisherPort T U) : Type 0 where
  still : (index : ℕ) → connection_of index new ≡ connection_of index old
  refuses : (index : ℕ) → get_or old.ties.items old.progress.place None ≡ Some index → is_live index old ≡ true
      → is_some old.sender.uses.sending ≡ true
      → accepts old.sender.uses.overflows (connection_of index old) ≡ true → ⊥
  counted : new.progress.delivered ≡ old.progress.delivered

-- The connection of a place took the message, and this is counted.
record TookHere {T U : Type 0} (at : ℕ) (old new : PublisherPort T U) : Type 0 where
  message : Message T U
  tie : get_or old.ties.items old.progress.place None ≡ Some at
  sending : old.sender.uses.sending ≡ Some message
  live : is_live at old ≡ true
  accepted : accepts old.sender.uses.overflows (connection_of at old) ≡ true
  got : connection_of at new ≡ offered old.sender.uses.overflows message (connection_of at old)
  others : (index : ℕ) → index ≢ at → connection_of index new ≡ connection_of index old
  counted : new.progress.delivered ≡ old.progress.delivered + 1

-- nothing is put where the connection doesn't go on, or nothing is sent
put_nothing : {T U : Type 0} (live : Bool) (sending : Option (Message T U)) (at index : ℕ) (port : PublisherPort T U)
    → (live && is_some sending) ≡ false
    → connection_of index (if live then with_message at sending port else port) ≡ connection_of index port
put_nothing true None at index port not = refl
put_nothing true (Some message) at index port not = cc
put_nothing false sending at index port not = refl

-- nor where it isn't accepted
put_full : {T U : Type 0} (at index : ℕ) (port : PublisherPort T U) → accepts port.sender.uses.overflows (connection_of at port) ≡ false
    → connection_of index (met_by (Some at) port) ≡ connection_of index port
put_full {T} {U} at index port full = same (met_got (Some at) index port)
  where
    same : (connection_of index (met_by (Some at) port) ≡ connection_of index port)
        ⊎ ((message : Message T U) × (Some at ≡ Some index) × (port.sender.uses.sending ≡ Some message)
        × (connection_of index (met_by (Some at) port) ≡ offered port.sender.uses.overflows message (connection_of index port)))
        → connection_of index (met_by (Some at) port) ≡ connection_of index port
    same (inl is) = is
    same (inr got) =
        let (message, tie, sending, is) = got in
        let at_index : at ≡ index = cc in
        is ∙ offered_full port.sender.uses.overflows message (connection_of index port)
        (ap (λ n. accepts port.sender.uses.overflows (connection_of n port)) (sym at_index) ∙ full)

-- what comes of a place by whether it is ready and accepts
delivered_if : (ready accepted : Bool) (reader : Option Reader) → ready ≡ true → accepted ≡ true
    → (if ready then (if accepted then meeting.Delivered else unheard reader) else meeting.Passed) ≡ meeting.Delivered
delivered_if ready accepted reader is_ready is_accepted = rw is_ready (rw is_accepted refl)

unheard_undelivered : (reader : Option Reader) → unheard reader ≡ meeting.Delivered → ⊥
unheard_undelivered None is = cc
unheard_undelivered (Some reader) is = by_case reader.attached is where
  by_case : (attached : Bool) → (if attached then meeting.Full reader.subscriber else meeting.Passed) ≡ meeting.Delivered → ⊥
  by_case true is = cc
  by_case false is = cc

only_if : (ready accepted : Bool) (reader : Option Reader)
    → (if ready then (if accepted then meeting.Delivered else unheard reader) else meeting.Passed) ≡ meeting.Delivered → (ready ≡ true)
    × (accepted ≡ true)
only_if true true reader is = (refl, refl)
only_if true false reader is = absurd (unheard_undelivered reader is)
only_if false accepted reader is = cc

-- a connection that isn't ready, or doesn't accept, stays as it is
quiet_at : {T U : Type 0} (at index : ℕ) (port : PublisherPort T U) (ready accepted : Bool) → is_ready at port ≡ ready
    → accepts port.sender.uses.overflows (connection_of at port) ≡ accepted
    → ((if ready then (if accepted then meeting.Delivered else unheard (get_or port.readers at None)) else meeting.Passed)
    ≡ meeting.Delivered → ⊥) → connection_of index (met_by (Some at) port) ≡ connection_of index port
quiet_at at index port true true is_ready is_accepted not = absurd (not refl)
quiet_at at index port true false is_ready is_accepted not = put_full at index port is_accepted
quiet_at at index port false accepted is_ready is_accepted not
    = put_nothing (is_live at port) port.sender.uses.sending at index port is_ready

quiet_by : {T U : Type 0} (tie : Option ℕ) (index : ℕ) (port : PublisherPort T U) → (meeting_by tie port ≡ meeting.Delivered → ⊥)
    → connection_of index (met_by tie port) ≡ connection_of index port
quiet_by None index port not = refl
quiet_by (Some at) index port not = quiet_at at index port (is_ready at port)
    (accepts port.sender.uses.overflows (connection_of at port)) refl refl not

both_true : (a b : Bool) → a ≡ true → b ≡ true → (a && b) ≡ true
both_true a b first second = rw first second

each_true : (a b : Bool) → (a && b) ≡ true → (a ≡ true) × (b ≡ true)
each_true true b is = (refl, is)
each_true false b is = cc

-- the place of a tie is one of the list
within : (ties : List (Option ℕ)) (place index : ℕ) (there : Bool) → nat_lt place (length ties) ≡ there
    → get_or ties place None ≡ Some index → there ≡ true
within ties place index true is tie = refl
within ties place index false is tie =
    let past : length ties ≤ place = grind (arith, is) in
    let no : None ≡ Some index = sym (get_or_past ties place None past) ∙ tie in
    cc

-- what comes of a place
there_at : {T U : Type 0} (place : ℕ) (there : Bool) (port : PublisherPort T U) (tie : Option ℕ)
    → nat_lt place (length port.ties.items) ≡ there → get_or port.ties.items place None ≡ tie
    → meeting_at place port ≡ (if there then meeting_by tie port else meeting.Over)
there_at place there port tie is is_tie = rw is (rw is_tie refl)

quiet_met : {T U : Type 0} (place index : ℕ) (there : Bool) (port : PublisherPort T U) → nat_lt place (length port.ties.items) ≡ there
    → (meeting_at place port ≡ meeting.Delivered → ⊥) → connection_of index (met place port) ≡ connection_of index port
quiet_met place index true port is not
    = quiet_by (get_or port.ties.items place None) index port
    (λ delivered. not (there_at place true port (get_or port.ties.items place None) is refl ∙ delivered))
quiet_met place index false port is not =
    let past : length port.ties.items ≤ place = grind (arith, is) in
    ap (λ tie. connection_of index (met_by tie port)) (get_or_past port.ties.items place None past)

-- so a place that isn't delivered to is quiet
quiet_place : {T U : Type 0} (old new : PublisherPort T U) → (meeting_at old.progress.place old ≡ meeting.Delivered → ⊥)
    → new.sender ≡ (met old.progress.place old).sender → new.progress.delivered ≡ old.progress.delivered → Quiet old new
quiet_place old new not sender counted = record {
  still = λ index. ap (λ one. get_or one.uses.connections index nobody) sender ∙ quiet_met old.progress.place index
      (nat_lt old.progress.place (length old.ties.items)) old refl not;
  refuses = λ index tie live sending accepted.
      let there : nat_lt old.progress.place (length old.ties.items) ≡ true
      = within old.ties.items old.progress.place index (nat_lt old.progress.place (length old.ties.items)) refl tie in
      not (there_at old.progress.place true old (Some index) there tie
      ∙ delivered_if (is_ready index old) (accepts old.sender.uses.overflows (connection_of index old)) (get_or old.readers index None)
      (both_true (is_live index old) (is_some old.sender.uses.sending) live sending) accepted);
  counted = counted;
}

-- a message is put
put_here : {T U : Type 0} (live : Bool) (sending : Option (Message T U)) (at : ℕ) (old new : PublisherPort T U) → is_live at old ≡ live
    → old.sender.uses.sending ≡ sending → (live && is_some sending) ≡ true
    → accepts old.sender.uses.overflows (connection_of at old) ≡ true → get_or old.ties.items old.progress.place None ≡ Some at
    → new.sender ≡ (if live then with_message at sending old else old).sender
    → new.progress.delivered ≡ old.progress.delivered + 1 → TookHere at old new
put_here false sending at old new is_live is_sending ready accepted tie sender counted = cc
put_here true None at old new is_live is_sending ready accepted tie sender counted = cc
put_here true (Some message) at old new is_live is_sending ready accepted tie sender counted = record {
  message = message;
  tie = tie;
  sending = is_sending;
  live = is_live;
  accepted = accepted;
  got = ap (λ one. get_or one.uses.connections at nobody) sender ∙ get_or-set_same old.sender.uses.connections at
      (offered old.sender.uses.overflows message (connection_of at old)) nobody (live_within at old is_live);
  others = λ index not. ap (λ one. get_or one.uses.connections index nobody) sender ∙ get_or-set_other old.sender.uses.connections at
      index (offered old.sender.uses.overflows message (connection_of at old)) nobody not;
  counted = counted;
}

took_by : {T U : Type 0} (tie : Option ℕ) (old new : PublisherPort T U) → get_or old.ties.items old.progress.place None ≡ tie
    → meeting_by tie old ≡ meeting.Delivered → new.sender ≡ (met_by tie old).sender
    → new.progress.delivered ≡ old.progress.delivered + 1 → (at : ℕ) × TookHere at old new
took_by None old new is delivered sender counted = cc
took_by (Some at) old new is delivered sender counted =
    let both = only_if (is_ready at old) (accepts old.sender.uses.overflows (connection_of at old)) (get_or old.readers at None)
    delivered in
    (at, put_here (is_live at old) old.sender.uses.sending at old new refl refl both.0 both.1 is sender counted)

took_at : {T U : Type 0} (there : Bool) (old new : PublisherPort T U) → nat_lt old.progress.place (length old.ties.items) ≡ there
    → (if there then meeting_by (get_or old.ties.items old.progress.place None) old else meeting.Over) ≡ meeting.Delivered
    → new.sender ≡ (met old.progress.place old).sender
    → new.progress.delivered ≡ old.progress.delivered + 1 → (at : ℕ) × TookHere at old new
took_at true old new is delivered sender counted
    = took_by (get_or old.ties.items old.progress.place None) old new refl delivered sender counted
took_at false old new is delivered sender counted = cc

-- The effect of a step of a send at one place.
abbrev StepTook : {T U : Type 0} → Bool → PublisherPort T U → PublisherPort T U → Type 0
StepTook went old new = Quiet old new ⊎ ((went ≡ true) × (at : ℕ) × TookHere at old new)

same_count : {T U : Type 0} (old : PublisherPort T U) → (met old.progress.place old).progress.delivered ≡ old.progress.delivered
same_count old = ap (λ progress. progress.delivered) (met_same (get_or old.ties.items old.progress.place None) old).1

decided_quiet : {T U : Type 0} (decision : BackpressureDecision) (subscriber : ℕ) (old new : PublisherPort T U)
    → meeting_at old.progress.place old ≡ meeting.Full subscriber → new ≡ decided_by decision (met old.progress.place old) → Quiet old new
decided_quiet decided.Retry subscriber old new full is
    = quiet_place old new (λ delivered. let no : meeting.Full subscriber ≡ meeting.Delivered = sym full ∙ delivered in cc)
    (ap (λ port. port.sender) is) (ap (λ port. port.progress.delivered) is ∙ same_count old)
decided_quiet decided.DiscardData subscriber old new full is
    = quiet_place old new (λ delivered. let no : meeting.Full subscriber ≡ meeting.Delivered = sym full ∙ delivered in cc)
    (ap (λ port. port.sender) is) (ap (λ port. port.progress.delivered) is ∙ same_count old)
decided_quiet decided.DiscardDataAndFail subscriber old new full is
    = quiet_place old new (λ delivered. let no : meeting.Full subscriber ≡ meeting.Delivered = sym full ∙ delivered in cc)
    (ap (λ port. port.sender) is) (ap (λ port. port.progress.delivered) is ∙ same_count old)

step_took : {T U : Type 0} (may : BackpressureInfo → BackpressureDecision → Type 0) (came : Meeting) (went : Bool)
    (old new : PublisherPort T U) → meeting_at old.progress.place old ≡ came → Steps may came (met old.progress.place old) went new
    → StepTook went old new
step_took may meeting.Over went old new is steps
    = inl (quiet_place old new (λ delivered. let no : meeting.Over ≡ meeting.Delivered = sym is ∙ delivered in cc)
    (ap (λ port. port.sender) steps.1) (ap (λ port. port.progress.delivered) steps.1 ∙ same_count old))
step_took may meeting.Passed went old new is steps
    = inl (quiet_place old new (λ delivered. let no : meeting.Passed ≡ meeting.Delivered = sym is ∙ delivered in cc)
    (ap (λ port. port.sender) steps.1) (ap (λ port. port.progress.delivered) steps.1 ∙ same_count old))
step_took may meeting.Delivered went old new is steps =
    let took = took_at (nat_lt old.progress.place (length old.ties.items)) old new refl is (ap (λ port. port.sender) steps.1)
    (ap (λ port. port.progress.delivered) steps.1 ∙ ap (λ count. count + 1) (same_count old)) in
    inr (steps.0, took.0, took.1)
step_took may (meeting.Full subscriber) went old new is steps = inl (decided_quiet steps.0 subscriber old new is steps.3)

-- The effect of a send's steps at several places, one after another.
record Gone {T U : Type 0} (old new : PublisherPort T U) : Type 0 where
  ties : new.ties ≡ old.ties
  forward : old.progress.place ≤ new.progress.place
  takers : List ℕ
  come : TryComesTo takers old new

nobody_took : {T U : Type 0} (old new : PublisherPort T U) → new.progress.place ≡ old.progress.place
    → new.progress.delivered ≡ old.progress.delivered → ((index : ℕ) → connection_of index new ≡ connection_of index old)
    → TryComesTo [] old new
nobody_took old new place counted still = record {
  once = λ index. omega arith;
  took = λ index some. absurd (omega (arith, some));
  others = λ index none. still index;
  all = λ at index from to. absurd (omega (arith, from, to, place));
  counted = omega (arith, counted);
}

-- what was taken at a later place was taken so from the place before
took_later : {T U : Type 0} (index : ℕ) (old next new : PublisherPort T U) → old.progress.place ≤ next.progress.place
    → next.ties ≡ old.ties → next.sender.uses.sending ≡ old.sender.uses.sending → next.sender.uses.overflows ≡ old.sender.uses.overflows
    → connection_of index next ≡ connection_of index old → Took index next new → Took index old new
took_later index old next new forward ties sending overflows same took = record {
  place = took.place;
  message = took.message;
  from = omega (arith, took.from, forward);
  to = took.to;
  tie = sym (ap (λ all. get_or all.items took.place None) ties) ∙ took.tie;
  sending = sym sending ∙ took.sending;
  live = sym (ap (λ one. goes_on one.stage) same) ∙ took.live;
  accepted = sym (ap (λ b. accepts b (connection_of index next)) overflows ∙ ap (λ one. accepts old.sender.uses.overflows one) same) ∙
      took.accepted;
  got = took.got ∙ ap (λ b. offered b took.message (connection_of index next)) overflows ∙ ap
      (λ one. offered old.sender.uses.overflows took.message one) same;
}

-- one quiet place, and what comes of those after it
quiet_then : {T U : Type 0} (old next new : PublisherPort T U) → Quiet old next → StepGot true old next → Gone next new → Gone old new
quiet_then {T} {U} old next new quiet step gone =
    let place : next.progress.place ≡ old.progress.place + 1 = step.goes refl in
    record {
      ties = gone.ties ∙ step.same.ties;
      forward = omega (arith, place, gone.forward);
      takers = gone.takers;
      come = record {
        once = gone.come.once;
        took = λ index some. took_later index old next new (omega (arith, place)) step.same.ties step.same.sending step.same.overflows
            (quiet.still index) (gone.come.took index some);
        others = λ index none. gone.come.others index none ∙ quiet.still index;
        all = λ at index from to tie live sending accepted. elim (cases_eq at old.progress.place) [
          | inl same ↦ absurd (quiet.refuses index (ap (λ n. get_or old.ties.items n None) (sym same) ∙ tie) live sending accepted)
          | inr other ↦ gone.come.all at index (later at from other place) to
              (ap (λ all. get_or all.items at None) step.same.ties ∙ tie) (ap (λ one. goes_on one.stage) (quiet.still index) ∙ live)
              (ap (λ found. is_some found) step.same.sending ∙ sending)
              (ap (λ b. accepts b (connection_of index next)) step.same.overflows ∙ ap (λ one. accepts old.sender.uses.overflows one)
              (quiet.still index) ∙ accepted)
        ];
        counted = omega (arith, gone.come.counted, quiet.counted);
      };
    }
  where
    later : (at : ℕ) → old.progress.place ≤ at → at ≢ old.progress.place → next.progress.place ≡ old.progress.place + 1
        → next.progress.place ≤ at
    later at from other place = omega (arith, from, other, place)

-- one place where the message was taken, and what comes of those after it
taken_then : {T U : Type 0} (at : ℕ) (old next new : PublisherPort T U) → AreTiesApart old → TookHere at old next
    → StepGot true old next → Gone next new → Gone old new
taken_then {T} {U} at old next new apart here step gone =
    let place : next.progress.place ≡ old.progress.place + 1 = step.goes refl in
    let alone : how_often at gone.takers ≡ 0 = none (how_often at gone.takers) refl place in
    record {
      ties = gone.ties ∙ step.same.ties;
      forward = omega (arith, place, gone.forward);
      takers = at ∷ gone.takers;
      come = record {
        once = λ index. elim (cases_eq index at) [
          | inl same ↦ omega (arith, ap (λ n. how_often n (at ∷ gone.takers)) same, once_here at gone.takers, alone)
          | inr other ↦ omega (arith, not_here index at gone.takers other, gone.come.once index)
        ];
        took = λ index some. elim (cases_eq index at) [
          | inl same ↦ subst (λ n. Took n old new) (sym same) (first place alone)
          | inr other ↦
              let more : 0 < how_often index gone.takers = omega (arith, some, not_here index at gone.takers other) in
              took_later index old next new (omega (arith, place)) step.same.ties step.same.sending step.same.overflows
              (here.others index other) (gone.come.took index more)
        ];
        others = λ index none. elim (cases_eq index at) [
          | inl same ↦ absurd (omega (arith, none, ap (λ n. how_often n (at ∷ gone.takers)) same, once_here at gone.takers))
          | inr other ↦ gone.come.others index (omega (arith, none, not_here index at gone.takers other)) ∙ here.others index other
        ];
        all = λ one index from to tie live sending accepted. elim (cases_eq index at) [
          | inl same ↦ omega (arith, ap (λ n. how_often n (at ∷ gone.takers)) same, once_here at gone.takers)
          | inr other ↦
              let elsewhere : one ≢ old.progress.place = λ is. let both : Some index ≡ Some at
              = sym tie ∙ ap (λ n. get_or old.ties.items n None) is ∙ here.tie in other (cc) in
              let more : 0 < how_often index gone.takers =
              gone.come.all one index (omega (arith, from, elsewhere, place)) to
              (ap (λ all. get_or all.items one None) step.same.ties ∙ tie)
              (ap (λ found. goes_on found.stage) (here.others index other) ∙ live)
              (ap (λ found. is_some found) step.same.sending ∙ sending)
              (ap (λ b. accepts b (connection_of index next)) step.same.overflows ∙ ap
              (λ found. accepts old.sender.uses.overflows found) (here.others index other) ∙ accepted) in
              omega (arith, more, not_here index at gone.takers other)
        ];
        counted = omega (arith, gone.come.counted, here.counted);
      };
    }
  where
    -- a later place isn't tied to the same connection
    none : (often : ℕ) → how_often at gone.takers ≡ often → next.progress.place ≡ old.progress.place + 1 → how_often at gone.takers ≡ 0
    none zero is place = is
    none (suc more) is place =
        let again : Took at next new = gone.come.took at (omega (arith, is)) in
        let tie : get_or old.ties.items again.place None ≡ Some at
        = sym (ap (λ all. get_or all.items again.place None) step.same.ties) ∙ again.tie in
        let same : again.place ≡ old.progress.place = apart again.place old.progress.place at tie here.tie in
        absurd (omega (arith, same, again.from, place))

    first : next.progress.place ≡ old.progress.place + 1 → how_often at gone.takers ≡ 0 → Took at old new
    first place alone = record {
      place = old.progress.place;
      message = here.message;
      from = omega arith;
      to = omega (arith, place, gone.forward);
      tie = here.tie;
      sending = here.sending;
      live = here.live;
      accepted = here.accepted;
      got = gone.come.others at alone ∙ here.got;
    }

-- one place, where the send goes on
place_then : {T U : Type 0} (old next new : PublisherPort T U) → AreTiesApart old → StepTook true old next → StepGot true old next
    → Gone next new → Gone old new
place_then old next new apart (inl quiet) step gone = quiet_then old next new quiet step gone
place_then old next new apart (inr (went, at, here)) step gone = taken_then at old next new apart here step gone

-- and one where it waits
waits_at : {T U : Type 0} (old next new : PublisherPort T U) → StepTook false old next → StepGot false old next → new ≡ next → Gone old new
waits_at old next new (inl quiet) step is =
    let still = step.waits refl in
    record {
      ties = ap (λ port. port.ties) is ∙ step.same.ties;
      forward = omega (arith, still.0, ap (λ port. port.progress.place) is);
      takers = [];
      come = nobody_took old new (ap (λ port. port.progress.place) is ∙ still.0)
          (ap (λ port. port.progress.delivered) is ∙ quiet.counted) (λ index. ap (λ port. connection_of index port) is ∙ still.1 index);
    }
waits_at old next new (inr (went, at, here)) step is = let no : false ≡ true = went in absurd (cc)

goes_took : {T U : Type 0} (went arrived : Bool) (old next new : PublisherPort T U) (further : Type 0) → AreTiesApart old
    → StepTook went old next → StepGot went old next → (further → Gone next new) → GoesOn went arrived next new further → Gone old new
goes_took false arrived old next new further apart took step gone goes = waits_at old next new took step goes.1
goes_took true arrived old next new further apart took step gone goes = place_then old next new apart took step (gone goes)

delivers_took : {T U : Type 0} (may : BackpressureInfo → BackpressureDecision → Type 0) (places : ℕ) (old new : PublisherPort T U)
    (arrived : Bool) → AreTiesApart old → Delivers may places old arrived new → Gone old new
delivers_took may zero old new arrived apart delivers = record {
  ties = ap (λ port. port.ties) delivers.1;
  forward = omega (arith, ap (λ port. port.progress.place) delivers.1);
  takers = [];
  come = nobody_took old new (ap (λ port. port.progress.place) delivers.1) (ap (λ port. port.progress.delivered) delivers.1)
      (λ index. ap (λ port. connection_of index port) delivers.1);
}
delivers_took {T} {U} may (suc places) old new arrived apart delivers =
    let (went, next, steps, goes) = delivers in
    let step : StepGot went old next = step_got may (meeting_at old.progress.place old) went old next refl steps in
    goes_took went arrived old next new (Delivers may places next arrived new) apart
    (step_took may (meeting_at old.progress.place old) went old next refl steps) step
    (λ further. delivers_took may places next new arrived (apart_next old next step.same.ties apart) further) goes

-- one try
last_same : {T U : Type 0} (takers : List ℕ) (old gone new : PublisherPort T U)
    → ((index : ℕ) → connection_of index new ≡ connection_of index gone) → new.progress ≡ gone.progress → TryComesTo takers old gone
    → TryComesTo takers old new
last_same takers old gone new still progress come = record {
  once = come.once;
  took = λ index some.
      let took = come.took index some in
      record {
        place = took.place;
        message = took.message;
        from = took.from;
        to = omega (arith, took.to, ap (λ one. one.place) progress);
        tie = took.tie;
        sending = took.sending;
        live = took.live;
        accepted = took.accepted;
        got = still index ∙ took.got;
      };
  others = λ index none. still index ∙ come.others index none;
  all = λ place index from to. come.all place index from (omega (arith, to, ap (λ one. one.place) progress));
  counted = ap (λ one. one.delivered) progress ∙ come.counted;
}

concluded_ties : {T U : Type 0} (arrived : Bool) (port : PublisherPort T U) → (concluded arrived port).ties ≡ port.ties
concluded_ties true port = refl
concluded_ties false port = refl

tried : {T U : Type 0} (may : BackpressureInfo → BackpressureDecision → Type 0) (old new : PublisherPort T U)
    (answer : Result Sent SendError) → AreTiesApart old → Finishes may old answer new → Gone old new
tried {T} {U} may old new answer apart finishes =
    let (arrived, gone, delivers, is_answer, is_new) = finishes in
    let all : Gone old gone = delivers_took may (length old.ties.items - old.progress.place) old gone arrived apart delivers in
    let progress : new.progress ≡ gone.progress = ap (λ port. port.progress) is_new ∙ (concluded_same arrived 0 gone).1 in
    record {
      ties = ap (λ port. port.ties) is_new ∙ concluded_ties arrived gone ∙ all.ties;
      forward = omega (arith, all.forward, ap (λ one. one.place) progress);
      takers = all.takers;
      come = last_same all.takers old gone new
          (λ index. ap (λ port. connection_of index port) is_new ∙ (concluded_same arrived index gone).0) progress all.come;
    }

-- The effect of the tries from one on: each connection that took a message is tied to a place that the send had not passed before.
record Reached {T U : Type 0} (first last : PublisherPort T U) (tries : List (Try T U)) : Type 0 where
  takers : List (List ℕ)
  come : TriesComeTo takers tries
  once : (index : ℕ) → how_often index (all_takers takers) ≤ 1
  tied : (index : ℕ) → 0 < how_often index (all_takers takers) → (place : ℕ) × (first.progress.place ≤ place)
      × (get_or first.ties.items place None ≡ Some index)
  counted : last.progress.delivered ≡ first.progress.delivered + length (all_takers takers)

reached : {T U : Type 0} (may : BackpressureInfo → BackpressureDecision → Type 0) (first last : PublisherPort T U)
    (tries : List (Try T U)) → AreTiesApart first → AreTries may first tries last → Reached first last tries
reached may first last [] apart same = record {
  takers = [];
  come = tt;
  once = λ index. omega arith;
  tied = λ index some. absurd (omega (arith, some));
  counted = omega (arith, same.delivered);
}
reached {T} {U} may first last (one ∷ rest) apart (same, finishes, further) =
    let gone : Gone one.before one.after
    = tried may one.before one.after one.answer (apart_next first one.before same.ties apart) finishes in
    let ties : one.after.ties ≡ first.ties = gone.ties ∙ same.ties in
    let behind : Reached one.after last rest = reached may one.after last rest (apart_next first one.after ties apart) further in
    record {
      takers = gone.takers ∷ behind.takers;
      come = (gone.come, behind.come);
      once = λ index. once_of index gone behind ties (how_often index gone.takers) (how_often index (all_takers behind.takers)) refl refl;
      tied = λ index some. tied_of index gone behind ties (how_often index gone.takers) refl some;
      counted = omega (arith, behind.counted, gone.come.counted, same.delivered, length-append gone.takers (all_takers behind.takers));
    }
  where
    tie_of : (index : ℕ) (gone : Gone one.before one.after) → 0 < how_often index gone.takers → (place : ℕ)
        × (first.progress.place ≤ place) × (place < one.after.progress.place) × (get_or first.ties.items place None ≡ Some index)
    tie_of index gone some =
        let took : Took index one.before one.after = gone.come.took index some in
        (took.place, omega (arith, took.from, same.place), took.to, sym (ap (λ all. get_or all.items took.place None) same.ties) ∙ took.tie)

    later_of : (index : ℕ) (behind : Reached one.after last rest) → one.after.ties ≡ first.ties
        → 0 < how_often index (all_takers behind.takers) → (place : ℕ) × (one.after.progress.place ≤ place)
        × (get_or first.ties.items place None ≡ Some index)
    later_of index behind ties some =
        let (place, from, tie) = behind.tied index some in
        (place, from, sym (ap (λ all. get_or all.items place None) ties) ∙ tie)

    once_of : (index : ℕ) (gone : Gone one.before one.after) (behind : Reached one.after last rest) → one.after.ties ≡ first.ties
        → (now later : ℕ) → how_often index gone.takers ≡ now → how_often index (all_takers behind.takers) ≡ later
        → how_often index (gone.takers ++ all_takers behind.takers) ≤ 1
    once_of index gone behind ties zero later is_now is_later
        = omega (arith, often_both index gone.takers (all_takers behind.takers), is_now, behind.once index)
    once_of index gone behind ties (suc now) zero is_now is_later
        = omega (arith, often_both index gone.takers (all_takers behind.takers), is_later, gone.come.once index)
    once_of index gone behind ties (suc now) (suc later) is_now is_later =
        let (place, from, to, tie) = tie_of index gone (omega (arith, is_now)) in
        let (other, past, again) = later_of index behind ties (omega (arith, is_later)) in
        let is : place ≡ other = apart place other index tie again in
        absurd (omega (arith, is, to, past))

    tied_of : (index : ℕ) (gone : Gone one.before one.after) (behind : Reached one.after last rest) → one.after.ties ≡ first.ties
        → (now : ℕ) → how_often index gone.takers ≡ now
        → 0 < how_often index (gone.takers ++ all_takers behind.takers) → (place : ℕ) × (first.progress.place ≤ place)
        × (get_or first.ties.items place None ≡ Some index)
    tied_of index gone behind ties zero is_now some =
        let (place, from, tie) = later_of index behind ties
        (omega (arith, some, is_now, often_both index gone.takers (all_takers behind.takers))) in
        (place, omega (arith, from, gone.forward, same.place), tie)
    tied_of index gone behind ties (suc now) is_now some =
        let (place, from, to, tie) = tie_of index gone (omega (arith, is_now)) in
        (place, from, tie)

-- what a send answers that came to its end
answer_count : (arrived : Bool) (progress : ProgressState) (count : ℕ) → Ok (sent.Delivered count) ≡ sent_answer arrived progress
    → count ≡ progress.delivered
answer_count false progress count is = cc
answer_count true progress count is = by_case progress.fails is where
  by_case : (fails : Bool) → Ok (sent.Delivered count)
      ≡ (if fails then Err sending.UnableToDeliver else Ok (sent.Delivered progress.delivered)) → count ≡ progress.delivered
  by_case true is = cc
  by_case false is = cc

given_up : {T U : Type 0} (blocked : Bool) (count : ℕ) (port after : PublisherPort T U) → GivesUpIf blocked port (Some count) after
    → count ≡ port.progress.delivered
given_up false count port after gives = let no : Some count ≡ None = gives.0 in cc
given_up true count port after gives = let is : Some count ≡ Some port.progress.delivered = gives.0 in cc

pub send_reaches_once : {T U : Type 0} (decide : BackpressureInfo → BackpressureDecision → Type 0) → SendReachesOnce T U decide
send_reaches_once decide = record {
  begins = λ at loan port. (refl, refl);
  reaches = λ first last tries apart are.
      let all = reached decide first last tries apart are in
      (all.takers, all.come, all.once, all.counted);
  answers = λ count old new finishes.
      let (arrived, gone, delivers, is_answer, is_new) = finishes in
      answer_count arrived gone.progress count is_answer ∙ sym
      (ap (λ port. port.progress.delivered) is_new ∙ ap (λ one. one.delivered) (concluded_same arrived 0 gone).1);
  gives_up = λ count port after gives. given_up (is_blocked port) count port after gives;
}
