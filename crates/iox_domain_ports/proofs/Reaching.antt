-- With safe overflow a send reaches all connections that go on.
use Rattle.std.proofs.Common.{arith, ◌≡◌, ◌+◌, ◌-◌, ◌<◌, ◌≤◌, ℕ, zero, suc, Bool, true, false, List, [], ◌∷◌, map, set, length, get_or}
use Rattle.std.proofs.Common.{nat_lt, Result, Ok, Err, Option, None, Some, refl, sym, ap, ◌∙◌, if◌then◌else◌, is_some}
use Rattle.std.proofs.Math.Logic.{⊎_elim}
use Rattle.std.proofs.lemmas.Bool.{cases_Bool}
use Rattle.iox_domain_slots.specs.Uses.{Connection, nobody, offered}
use Rattle.iox_domain_slots.specs.declared.stage.Stage.{Stage}
use Rattle.iox_domain_slots.specs.declared.stage.Stage.TheVariants as stage
use Rattle.iox_domain_ports.specs.Messages.{Message}
use Rattle.iox_domain_values.specs.declared.backpressure.BackpressureInfo.{BackpressureInfo}
use Rattle.iox_domain_values.specs.declared.backpressure.BackpressureDecision.{BackpressureDecision}
use Rattle.iox_domain_values.specs.declared.port_error.SendError.{SendError}
use Rattle.iox_domain_values.specs.declared.port_error.SendError.TheVariants as sending_error
use Rattle.iox_domain_ports.specs.declared.meeting.Meeting.TheVariants as meeting
use Rattle.iox_domain_ports.specs.declared.meeting.Sent.{Sent}
use Rattle.iox_domain_ports.specs.declared.meeting.Sent.TheVariants as sent
use Rattle.iox_domain_ports.specs.declared.publisher_port.PublisherPort.{PublisherPort}
use Rattle.iox_domain_ports.specs.Ports.{goes_on, is_live, connection_of}
use Rattle.iox_domain_ports.specs.Progress.{start}
use Rattle.iox_domain_ports.specs.Sending.{Steps, Delivers, Finishes, meeting_at, meeting_by, met, met_by, with_message, concluded}
use Rattle.iox_domain_ports.specs.Sending.{sent_answer}
use Rattle.iox_domain_ports.specs.PublisherLaws.{is_live_tie, live_from, live_ties}

-- how far each connection is
abbrev stages : {X : Type 0} → List (Connection X) → List Stage
stages connections = map (λ connection. connection.stage) connections

-- how far each connection of a publisher is
abbrev stages_of : {T U : Type 0} → PublisherPort T U → List Stage
stages_of port = stages port.sender.uses.connections

-- how far one is, read out of that list
stage_at : {X : Type 0} (connections : List (Connection X)) (index : ℕ)
    → (get_or connections index nobody).stage ≡ get_or (stages connections) index stage.Vacant
stage_at [] index = refl
stage_at (connection ∷ connections) zero = refl
stage_at (connection ∷ connections) (suc index) = stage_at connections index

-- a connection that is as far as the one before
stages_set : {X : Type 0} (connections : List (Connection X)) (index : ℕ) (connection : Connection X)
    → connection.stage ≡ (get_or connections index nobody).stage
    → stages (set connections index connection) ≡ stages connections
stages_set [] index connection same = refl
stages_set (x ∷ xs) zero connection same = ap (λ s. s ∷ stages xs) same
stages_set (x ∷ xs) (suc index) connection same = ap (λ rest. x.stage ∷ rest) (stages_set xs index connection same)

-- where each connection is as far, the same ones go on
live_same : {T U : Type 0} (one two : PublisherPort T U) (index : ℕ) → stages_of one ≡ stages_of two → is_live index one ≡ is_live index two
live_same one two index same =
    ap goes_on (stage_at one.sender.uses.connections index ∙ ap (λ all. get_or all index stage.Vacant) same ∙ sym
    (stage_at two.sender.uses.connections index))

-- and so the same ties
tie_same : {T U : Type 0} (one two : PublisherPort T U) (tie : Option ℕ) → stages_of one ≡ stages_of two
    → is_live_tie tie one ≡ is_live_tie tie two
tie_same one two None same = refl
tie_same one two (Some index) same = live_same one two index same

-- and so as many of them
count_same : {T U : Type 0} (one two : PublisherPort T U) (count place : ℕ) → one.ties.items ≡ two.ties.items
    → stages_of one ≡ stages_of two → live_from count place one ≡ live_from count place two
count_same one two zero place ties same = refl
count_same one two (suc count) place ties same =
    ap (λ is. (if is then 1 else 0) + live_from count (place + 1) one)
    (ap (λ all. is_live_tie (get_or all place None) one) ties ∙ tie_same one two (get_or two.ties.items place None) same)
    ∙ ap (λ more. (if is_live_tie (get_or two.ties.items place None) two then 1 else 0) + more)
    (count_same one two count (place + 1) ties same)

-- what a message changes nothing of
record Keeps {T U : Type 0} (old new : PublisherPort T U) : Type 0 where
  ties : new.ties.items ≡ old.ties.items
  stages : stages_of new ≡ stages_of old
  overflows : new.sender.uses.overflows ≡ old.sender.uses.overflows
  sending : new.sender.uses.sending ≡ old.sender.uses.sending
  progress : new.progress ≡ old.progress

-- a message that is put
keeps_message : {T U : Type 0} (index : ℕ) (message : Option (Message T U)) (port : PublisherPort T U)
    → Keeps port (with_message index message port)
keeps_message index None port = record { ties = refl; stages = refl; overflows = refl; sending = refl; progress = refl }
keeps_message index (Some message) port = record {
  ties = refl;
  stages = stages_set port.sender.uses.connections index (offered port.sender.uses.overflows message (connection_of index port)) refl;
  overflows = refl;
  sending = refl;
  progress = refl;
}

-- one that is put if the connection goes on
keeps_put : {T U : Type 0} (index : ℕ) (port : PublisherPort T U) (live : Bool)
    → Keeps port (if live then with_message index port.sender.uses.sending port else port)
keeps_put index port true = keeps_message index port.sender.uses.sending port
keeps_put index port false = record { ties = refl; stages = refl; overflows = refl; sending = refl; progress = refl }

-- one that comes to where a place is tied to
keeps_met : {T U : Type 0} (tie : Option ℕ) (port : PublisherPort T U) → Keeps port (met_by tie port)
keeps_met None port = record { ties = refl; stages = refl; overflows = refl; sending = refl; progress = refl }
keeps_met (Some index) port = keeps_put index port (is_live index port)

-- with safe overflow a connection that goes on takes the message, and another is passed over
meeting_is : {T U : Type 0} (tie : Option ℕ) (port : PublisherPort T U) → port.sender.uses.overflows ≡ true
    → is_some port.sender.uses.sending ≡ true
    → meeting_by tie port ≡ (if is_live_tie tie port then meeting.Delivered else meeting.Passed)
meeting_is None port overflows sending = refl
meeting_is (Some index) port overflows sending = ⊎_elim
    (λ live. rw live (rw sending (rw overflows refl)))
    (λ dead. rw dead refl)
    (cases_Bool (is_live index port))

-- what one place of a walk with safe overflow comes to
record Stepped {T U : Type 0} (live : Bool) (old : PublisherPort T U) (went : Bool) (new : PublisherPort T U) : Type 0 where
  goes : went ≡ true
  ties : new.ties.items ≡ old.ties.items
  stages : stages_of new ≡ stages_of old
  overflows : new.sender.uses.overflows ≡ old.sender.uses.overflows
  sending : new.sender.uses.sending ≡ old.sender.uses.sending
  place : new.progress.place ≡ old.progress.place + 1
  delivered : new.progress.delivered ≡ (if live then 1 else 0) + old.progress.delivered
  fails : new.progress.fails ≡ old.progress.fails

-- the message was delivered, or the place was passed over
stepped_is : {T U : Type 0} (may : BackpressureInfo → BackpressureDecision → Type 0) (live : Bool) (old met new : PublisherPort T U)
    (went : Bool) → Keeps old met
    → Steps may (if live then meeting.Delivered else meeting.Passed) met went new → Stepped live old went new
stepped_is may true old met new went keeps step = record {
  goes = step.0;
  ties = ap (λ port. port.ties.items) step.1 ∙ keeps.ties;
  stages = ap (λ port. stages_of port) step.1 ∙ keeps.stages;
  overflows = ap (λ port. port.sender.uses.overflows) step.1 ∙ keeps.overflows;
  sending = ap (λ port. port.sender.uses.sending) step.1 ∙ keeps.sending;
  place = ap (λ port. port.progress.place) step.1 ∙ ap (λ progress. progress.place + 1) keeps.progress;
  delivered = omega (arith, ap (λ port. port.progress.delivered) step.1, ap (λ progress. progress.delivered) keeps.progress);
  fails = ap (λ port. port.progress.fails) step.1 ∙ ap (λ progress. progress.fails) keeps.progress;
}
stepped_is may false old met new went keeps step = record {
  goes = step.0;
  ties = ap (λ port. port.ties.items) step.1 ∙ keeps.ties;
  stages = ap (λ port. stages_of port) step.1 ∙ keeps.stages;
  overflows = ap (λ port. port.sender.uses.overflows) step.1 ∙ keeps.overflows;
  sending = ap (λ port. port.sender.uses.sending) step.1 ∙ keeps.sending;
  place = ap (λ port. port.progress.place) step.1 ∙ ap (λ progress. progress.place + 1) keeps.progress;
  delivered = omega (arith, ap (λ port. port.progress.delivered) step.1, ap (λ progress. progress.delivered) keeps.progress);
  fails = ap (λ port. port.progress.fails) step.1 ∙ ap (λ progress. progress.fails) keeps.progress;
}

-- what comes at a place that there is
meeting_at_is : {T U : Type 0} (place : ℕ) (port : PublisherPort T U) → place < length port.ties.items
    → port.sender.uses.overflows ≡ true → is_some port.sender.uses.sending ≡ true
    → meeting_at place port ≡ (if is_live_tie (get_or port.ties.items place None) port then meeting.Delivered else meeting.Passed)
meeting_at_is place port within overflows sending =
    let is : nat_lt place (length port.ties.items) ≡ true = grind (arith, within) in
    rw is (meeting_is (get_or port.ties.items place None) port overflows sending)

-- what a walk with safe overflow comes to
record Reached {T U : Type 0} (count : ℕ) (old : PublisherPort T U) (arrived : Bool) (new : PublisherPort T U) : Type 0 where
  arrives : arrived ≡ true
  ties : new.ties.items ≡ old.ties.items
  stages : stages_of new ≡ stages_of old
  delivered : new.progress.delivered ≡ old.progress.delivered + live_from count old.progress.place old
  fails : new.progress.fails ≡ old.progress.fails

-- each connection that goes on takes the message
reach : {T U : Type 0} (may : BackpressureInfo → BackpressureDecision → Type 0) (count : ℕ) (old : PublisherPort T U) (arrived : Bool)
    (new : PublisherPort T U)
    → old.sender.uses.overflows ≡ true → is_some old.sender.uses.sending ≡ true → old.progress.place + count ≤ length old.ties.items
    → Delivers may count old arrived new → Reached count old arrived new
reach may zero old arrived new overflows sending within delivers = record {
  arrives = delivers.0;
  ties = ap (λ port. port.ties.items) delivers.1;
  stages = ap (λ port. stages_of port) delivers.1;
  delivered = omega (arith, ap (λ port. port.progress.delivered) delivers.1);
  fails = ap (λ port. port.progress.fails) delivers.1;
}
reach {T} {U} may (suc count) old arrived new overflows sending within delivers =
    let place = old.progress.place in
    let tie = get_or old.ties.items place None in
    let live = is_live_tie tie old in
    let next : PublisherPort T U = delivers.1 in
    let step : Steps may (if live then meeting.Delivered else meeting.Passed) (met place old) delivers.0 next =
    rw (← meeting_at_is place old (omega (arith, within)) overflows sending) delivers.2 in
    let one : Stepped live old delivers.0 next = stepped_is may live old (met place old) next delivers.0 (keeps_met tie old) step in
    let further : Delivers may count next arrived new = rw one.goes at delivers.3 in
    let more : Reached count next arrived new
    = reach may count next arrived new (one.overflows ∙ overflows) (ap (λ message. is_some message) one.sending ∙ sending)
    (omega (arith, within, one.place, ap (λ ties. length ties) one.ties)) further in
    let same : live_from count next.progress.place next ≡ live_from count (place + 1) old =
    ap (λ at. live_from count at next) one.place ∙ count_same next old count (place + 1) one.ties one.stages in
    record {
      arrives = more.arrives;
      ties = more.ties ∙ one.ties;
      stages = more.stages ∙ one.stages;
      delivered = omega (arith, more.delivered, one.delivered, same);
      fails = more.fails ∙ one.fails;
    }

-- a send that begins counts them all
pub reaches_all : {T U : Type 0} (may : BackpressureInfo → BackpressureDecision → Type 0) (old : PublisherPort T U)
    (answer : Result Sent SendError) (new : PublisherPort T U)
    → Finishes may old answer new → old.sender.uses.overflows ≡ true → is_some old.sender.uses.sending ≡ true → old.progress ≡ start
    → answer ≡ Ok (sent.Delivered (live_ties new))
reaches_all {T} {U} may old answer new finishes overflows sending begins =
    let at_start : old.progress.place ≡ 0 = ap (λ progress. progress.place) begins in
    let gone : PublisherPort T U = finishes.1 in
    let all : Reached (length old.ties.items - old.progress.place) old finishes.0 gone =
    reach may (length old.ties.items - old.progress.place) old finishes.0 gone overflows sending (omega (arith, at_start)) finishes.2 in
    let ends : new ≡ concluded true gone = rw all.arrives at finishes.4 in
    let ties : new.ties.items ≡ old.ties.items = ap (λ port. port.ties.items) ends ∙ all.ties in
    let stages : stages_of new ≡ stages_of old = ap (λ port. stages_of port) ends ∙ all.stages in
    let none : old.progress.delivered ≡ 0 = ap (λ progress. progress.delivered) begins in
    let rest : live_from (length old.ties.items - old.progress.place) old.progress.place old ≡ live_ties new =
    ap (λ at. live_from (length old.ties.items - at) at old) at_start
    ∙ ap (λ n. live_from n 0 old) (omega (arith, ap (λ all_ties. length all_ties) ties)) ∙ sym
    (count_same new old (length new.ties.items) 0 ties stages) in
    let counted_all : gone.progress.delivered ≡ live_ties new = omega (arith, all.delivered, none, rest) in
    let fine : gone.progress.fails ≡ false = all.fails ∙ ap (λ progress. progress.fails) begins in
    let told : answer ≡ sent_answer true gone.progress = rw all.arrives at finishes.3 in
    told ∙ ap (λ fails. if fails then Err sending_error.UnableToDeliver else Ok (sent.Delivered gone.progress.delivered)) fine ∙ ap
    (λ n. Ok (sent.Delivered n)) counted_all
