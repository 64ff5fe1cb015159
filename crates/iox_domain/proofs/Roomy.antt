-- A publisher that is tied well, and has a connection to each listed subscriber, follows the list without memory.
use Rattle.std.proofs.Common.{arith, ◌≡◌, ◌≢◌, ◌<◌, ◌&&◌, ℕ, Bool, true, false, not, List, get_or, length, Option, None, Some, Result, Ok}
use Rattle.std.proofs.Common.{Err, refl, sym, ap, ◌∙◌, inl, inr}
use Rattle.std.proofs.lemmas.Bool.{cases_lt}
use Rattle.std.proofs.lemmas.List.{get_or_past}
use Rattle.iox_domain.specs.Container.declared.container.Member.{Member}
use Rattle.iox_domain.specs.DomainValues.Sequences.{is_used_up}
use Rattle.iox_domain.specs.DomainValues.declared.backpressure.BackpressureDecision.{BackpressureDecision}
use Rattle.iox_domain.specs.DomainValues.declared.backpressure.BackpressureInfo.{BackpressureInfo}
use Rattle.iox_domain.specs.DomainValues.declared.connection_failure.ConnectionFailure.{ConnectionFailure}
use Rattle.iox_domain.specs.DomainValues.declared.degradation.DegradationAction.{DegradationAction}
use Rattle.iox_domain.specs.DomainValues.declared.degradation.DegradationInfo.{DegradationInfo}
use Rattle.iox_domain.specs.DomainValues.declared.port_error.SendError.{SendError}
use Rattle.iox_domain.specs.DomainValues.declared.port_error.SendError.TheVariants as sending
use Rattle.iox_domain.proofs.DomainPorts.Asked.{finishes_else}
use Rattle.iox_domain.proofs.DomainPorts.Enough.{updates_made}
use Rattle.iox_domain.specs.DomainPorts.Memory.{HasRoom}
use Rattle.iox_domain.specs.DomainPorts.Sending.{Sends, SendsStanding, SendsIf, SendsAfter, begun_at, ready_loan}
use Rattle.iox_domain.specs.DomainPorts.declared.meeting.Sent.{Sent}
use Rattle.iox_domain.specs.DomainPorts.declared.publisher_port.PublisherPort.{PublisherPort}
use Rattle.iox_domain.specs.DomainPorts.declared.subscriber_entry.SubscriberEntry.{SubscriberEntry}
use Rattle.iox_domain.specs.DomainPorts.Publishers.{port_of}
use Rattle.iox_domain.specs.PortLawsLaws.{IsTiedWell, IsWellEntry, IsApart, ConnectsAll, NeedsNoMemory}
use Rattle.iox_domain.specs.PortsPublishing.{is_free, is_blocked}
use Rattle.iox_domain.specs.PortsPublishing as publishing
use Rattle.iox_domain.specs.Rolls.{IsListOf}
use Rattle.iox_domain.specs.declared.ports.service_ports.ServicePorts.{ServicePorts}
use Rattle.iox_domain.proofs.Numbered.{at_number, FoundEntry, found_of_all}
use Rattle.iox_domain.proofs.WellKept.{told_same}

-- a publisher of the service that stands is tied well
pub well_of : {T U : Type 0} (ports : ServicePorts T U) (number : ℕ) (port : PublisherPort T U) → IsApart ports
    → port_of number ports.publishers ≡ Some port → port.stands ≡ true → IsTiedWell ports.next_port ports.subscriber_list.places port
well_of {T} {U} ports number port apart there stands =
    let found : FoundEntry (IsWellEntry ports.next_port ports.subscriber_list.places) (at_number number) port =
    found_of_all (IsWellEntry ports.next_port ports.subscriber_list.places) (at_number number) ports.publishers port apart.well there in
    found.holds stands

within : (places : List (Option (Member SubscriberEntry))) (place : ℕ) (member : Member SubscriberEntry)
    → get_or places place None ≡ Some member → place < length places
within places place member listed = elim (cases_lt place (length places)) [
  | inl below ↦ below
  | inr past ↦ let no : None ≡ Some member = sym (get_or_past places place None past) ∙ listed in absurd (cc)
]

-- all that the list needs is there
room_of : {T U : Type 0} (ports : ServicePorts T U) (listed : List (Option (Member SubscriberEntry))) (port : PublisherPort T U)
    → IsTiedWell ports.next_port ports.subscriber_list.places port → ConnectsAll ports port
    → IsListOf listed ports.subscriber_list → HasRoom listed port
room_of ports listed port well connects is =
    let told : (place : ℕ) → get_or ports.subscriber_list.places place None ≡ get_or listed place None
    = told_same listed ports.subscriber_list is in
    record {
      room = λ place member there. omega (arith, well.room, within ports.subscriber_list.places place member (told place ∙ there));
      connected = λ place member there. connects place member (told place ∙ there);
      alone = λ place other member there not. well.alone place other member (told place ∙ there) not;
    }

both_true : (a b : Bool) → a && b ≡ true → a ≡ true
both_true true b is = refl
both_true false b is = cc

update_made : {T U : Type 0} (free : Bool) (may : DegradationInfo → DegradationAction → Type 0) (ports : ServicePorts T U) (number : ℕ)
    (port after : PublisherPort T U) (outcome : Result (Unit {0}) ConnectionFailure) → IsApart ports
    → port_of number ports.publishers ≡ Some port → ConnectsAll ports port → is_free port ≡ free
    → publishing.UpdatesIf free may ports.subscriber_list port (Some outcome) after → outcome ≡ Ok tt
update_made false may ports number port after outcome apart there connects free updates = let no : Some outcome ≡ None
    = updates.0 in absurd (cc)
update_made true may ports number port after outcome apart there connects free updates =
    let (listed, is, answered, update, is_answer) = updates in
    let well = well_of ports number port apart there (both_true port.stands (not (is_blocked port)) free) in
    let made : answered ≡ Ok tt = updates_made may listed ports.subscriber_list.changes port after answered
    (room_of ports listed port well connects is) update in
    let same : Some outcome ≡ Some answered = is_answer in
    cc

send_after : {T U : Type 0} (may : BackpressureInfo → BackpressureDecision → Type 0) (at : ℕ)
    (updated : Result (Unit {0}) ConnectionFailure) (port after : PublisherPort T U) (outcome : Result Sent SendError)
    (failure : ConnectionFailure)
    → updated ≡ Ok tt → SendsAfter may at updated port (Some outcome) after → outcome ≢ Err (sending.ConnectionError failure)
send_after may at (Err error) port after outcome failure made sends is = let no : Err error ≡ Ok tt = made in cc
send_after may at (Ok done) port after outcome failure made sends is =
    let (finished, finishes, is_answer) = sends in
    finishes_else may (begun_at at port) after finished finishes failure (sym is_answer ∙ ap (λ one. Some one) is)

send_standing : {T U : Type 0} (used : Bool) (may : DegradationInfo → DegradationAction → Type 0)
    (decide : BackpressureInfo → BackpressureDecision → Type 0) (ports : ServicePorts T U) (number at : ℕ)
    (listed : List (Option (Member SubscriberEntry))) (port after : PublisherPort T U)
    (outcome : Result Sent SendError) (failure : ConnectionFailure) → IsApart ports → port_of number ports.publishers ≡ Some port
    → ConnectsAll ports port → IsListOf listed ports.subscriber_list → port.stands ≡ true
    → SendsStanding used may decide listed ports.subscriber_list.changes at port (Some outcome) after
    → outcome ≢ Err (sending.ConnectionError failure)
send_standing true may decide ports number at listed port after outcome failure apart there connects is stands sends refused =
    let used_up : Some outcome ≡ Some (Err sending.InternalError) = sends.0 in cc
send_standing false may decide ports number at listed port after outcome failure apart there connects is stands sends refused =
    let (updated, between, update, further) = sends in
    let made : updated ≡ Ok tt = updates_made may listed ports.subscriber_list.changes port between updated
    (room_of ports listed port (well_of ports number port apart there stands) connects is) update in
    send_after decide at updated between after outcome failure made further refused

send_made : {T U : Type 0} (stands : Bool) (may : DegradationInfo → DegradationAction → Type 0)
    (decide : BackpressureInfo → BackpressureDecision → Type 0) (ports : ServicePorts T U) (number at : ℕ)
    (listed : List (Option (Member SubscriberEntry))) (port after : PublisherPort T U)
    (outcome : Result Sent SendError) (failure : ConnectionFailure) → IsApart ports → port_of number ports.publishers ≡ Some port
    → ConnectsAll ports port → IsListOf listed ports.subscriber_list → port.stands ≡ stands
    → SendsIf stands may decide listed ports.subscriber_list.changes at port (Some outcome) after
    → outcome ≢ Err (sending.ConnectionError failure)
send_made false may decide ports number at listed port after outcome failure apart there connects is stands sends refused =
    let left : Some outcome ≡ Some (Err sending.ConnectionBrokenSinceSenderNoLongerExists) = sends.0 in cc
send_made true may decide ports number at listed port after outcome failure apart there connects is stands sends refused =
    send_standing (is_used_up port.last_sequence) may decide ports number at listed port after outcome failure apart there connects is
    stands sends refused

send_ready : {T U : Type 0} (ready : Option ℕ) (may : DegradationInfo → DegradationAction → Type 0)
    (decide : BackpressureInfo → BackpressureDecision → Type 0) (ports : ServicePorts T U) (number : ℕ)
    (listed : List (Option (Member SubscriberEntry))) (port after : PublisherPort T U)
    (outcome : Result Sent SendError) (failure : ConnectionFailure) → IsApart ports → port_of number ports.publishers ≡ Some port
    → ConnectsAll ports port → IsListOf listed ports.subscriber_list
    → Sends may decide listed ports.subscriber_list.changes ready port (Some outcome) after
    → outcome ≢ Err (sending.ConnectionError failure)
send_ready None may decide ports number listed port after outcome failure apart there connects is sends refused = let no : Some outcome
    ≡ None = sends.0 in cc
send_ready (Some at) may decide ports number listed port after outcome failure apart there connects is sends refused =
    send_made port.stands may decide ports number at listed port after outcome failure apart there connects is refl sends refused

pub needs_no_memory : {T U : Type 0} (may : DegradationInfo → DegradationAction → Type 0)
    (decide : BackpressureInfo → BackpressureDecision → Type 0) → NeedsNoMemory T U may decide
needs_no_memory may decide = record {
  update = λ ports number port after outcome apart there connects updates. update_made (is_free port) may ports number port after
      outcome apart there connects refl updates;
  send = λ ports number slot port after outcome failure apart there connects sends.
      send_ready (ready_loan slot port) may decide ports number sends.0 port after outcome failure apart there connects sends.1 sends.2;
}
