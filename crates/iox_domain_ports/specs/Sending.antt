-- How a message is sent to the connections of a publisher.
use Rattle.std.specs.Prelude.{zero, suc, ℕ, ◌-◌, ◌≡◌, ◌==◌, ◌&&◌, ◌||◌, not, is_some, nat_lt, slice_get, List, Bool, true, false, length}
use Rattle.std.specs.Prelude.{get_or, Option, None, Some, Result, Ok, Err, if◌then◌else◌}
use Rattle.std.specs.List.{position}
use Rattle.iox_domain_slots.specs.Uses.{accepts, offered, begun, dropped, finished}
use Rattle.iox_domain_ports.specs.Messages.{Message, Loan, sent_as}
use Rattle.iox_domain_ports.specs.MessagesSending.{with_uses, is_written_at}
use Rattle.iox_domain_values.specs.Sequences.{next_sequence, is_used_up}
use Rattle.iox_domain_slots.specs.Container.declared.container.Member.{Member}
use Rattle.iox_domain_values.specs.declared.connection_failure.ConnectionFailure.{ConnectionFailure}
use Rattle.iox_domain_values.specs.declared.degradation.DegradationAction.{DegradationAction}
use Rattle.iox_domain_values.specs.declared.degradation.DegradationInfo.{DegradationInfo}
use Rattle.iox_domain_values.specs.declared.backpressure.BackpressureInfo.{BackpressureInfo}
use Rattle.iox_domain_values.specs.declared.backpressure.BackpressureDecision.{BackpressureDecision}
use Rattle.iox_domain_values.specs.declared.backpressure.BackpressureDecision.TheVariants as decided
use Rattle.iox_domain_values.specs.declared.port_error.SendError.{SendError}
use Rattle.iox_domain_values.specs.declared.port_error.SendError.TheVariants as sending
use Rattle.iox_domain_ports.specs.declared.meeting.Sent.{Sent}
use Rattle.iox_domain_ports.specs.declared.meeting.Sent.TheVariants as sent
use Rattle.iox_domain_ports.specs.declared.meeting.Meeting.{Meeting}
use Rattle.iox_domain_ports.specs.declared.meeting.Meeting.TheVariants as meeting
use Rattle.iox_domain_ports.specs.Places.{unheard}
use Rattle.iox_domain_ports.specs.Progress.{ProgressState, start, passed, counted, failing}
use Rattle.iox_domain_ports.specs.PublisherUpdating.{Updates}
use Rattle.iox_domain_ports.specs.declared.publisher_port.PublisherPort.{PublisherPort}
use Rattle.iox_domain_ports.specs.declared.subscriber_entry.SubscriberEntry.{SubscriberEntry}
use Rattle.iox_domain_ports.specs.Ports.{connection_of, is_live, with_connection_of}

-- Whether the message that is being sent may be put into the connection at this index: there is such a message, and the
-- connection is live.
abbrev pub is_ready : {T U : Type 0} → ℕ → PublisherPort T U → Bool
is_ready index port = is_live index port && is_some port.sender.uses.sending

-- What the message meets at the connection at this index.
abbrev pub meeting_of : {T U : Type 0} → ℕ → PublisherPort T U → Meeting
meeting_of index port =
    if is_ready index port then
    (if accepts port.sender.uses.overflows (connection_of index port) then meeting.Delivered else unheard (get_or port.readers index None))
    else meeting.Passed

-- What the message meets at a place that is tied to this connection, or to none.
abbrev pub meeting_by : {T U : Type 0} → Option ℕ → PublisherPort T U → Meeting
meeting_by None port = meeting.Passed
meeting_by (Some index) port = meeting_of index port

-- What the message meets at a place of the list of subscribers.
abbrev pub meeting_at : {T U : Type 0} → ℕ → PublisherPort T U → Meeting
meeting_at place port = if nat_lt place (length port.ties.items) then meeting_by (get_or port.ties.items place None) port else meeting.Over

-- The publisher after this message, if there is one, was put into the mailbox of the connection at this index.
abbrev pub with_message : {T U : Type 0} → ℕ → Option (Message T U) → PublisherPort T U → PublisherPort T U
with_message index None port = port
with_message index (Some message) port
    = with_connection_of index (offered port.sender.uses.overflows message (connection_of index port)) port

-- The publisher after the message that is being sent was put into the connection at this index, if that connection is live.
abbrev pub put_at : {T U : Type 0} → ℕ → PublisherPort T U → PublisherPort T U
put_at index port = if is_live index port then with_message index port.sender.uses.sending port else port

-- The publisher after the message was put into the connection of this tie, if there is one.
abbrev pub met_by : {T U : Type 0} → Option ℕ → PublisherPort T U → PublisherPort T U
met_by None port = port
met_by (Some index) port = put_at index port

-- The publisher after the message was put into the connection to which this place is tied, if any.
abbrev pub met : {T U : Type 0} → ℕ → PublisherPort T U → PublisherPort T U
met place port = met_by (get_or port.ties.items place None) port

-- The publisher with this progress of its send.
abbrev pub with_progress : {T U : Type 0} → ProgressState → PublisherPort T U → PublisherPort T U
with_progress progress port = record port { progress = progress }

-- What the handler is given about a full mailbox.
abbrev pub info_of : {T U : Type 0} → ℕ → PublisherPort T U → BackpressureInfo
info_of subscriber port = record {
  service_id = port.service;
  sender_port_id = port.number;
  receiver_port_id = subscriber;
  retries = port.progress.retries;
  elapsed_time = port.progress.elapsed;
}

-- Whether the send continues at the next place after this decision.
abbrev pub goes_on_by : BackpressureDecision → Bool
goes_on_by decided.Retry = false
goes_on_by decided.DiscardData = true
goes_on_by decided.DiscardDataAndFail = true

-- The publisher after this decision.
abbrev pub decided_by : {T U : Type 0} → BackpressureDecision → PublisherPort T U → PublisherPort T U
decided_by decided.Retry port = port
decided_by decided.DiscardData port = with_progress (passed port.progress) port
decided_by decided.DiscardDataAndFail port = with_progress (failing port.progress) port

-- One step of a send, after what the message met at its place: the send continues at the next place, or stops here. At a full
-- mailbox it does as some decision says that the handler may make.
abbrev pub Steps : {T U : Type 0} → (BackpressureInfo → BackpressureDecision → Type 0) → Meeting → PublisherPort T U → Bool
    → PublisherPort T U → Type 0
Steps may meeting.Over port went new = (went ≡ false) × (new ≡ port)
Steps may meeting.Passed port went new = (went ≡ true) × (new ≡ with_progress (passed port.progress) port)
Steps may meeting.Delivered port went new = (went ≡ true) × (new ≡ with_progress (counted port.progress) port)
Steps may (meeting.Full subscriber) port went new =
    (decision : BackpressureDecision) × may (info_of subscriber port) decision × (went ≡ goes_on_by decision)
    × (new ≡ decided_by decision port)

-- If the send stops at this place, it hasn't visited all places, and the state stays; otherwise it continues.
abbrev pub GoesOn : {T U : Type 0} → Bool → Bool → PublisherPort T U → PublisherPort T U → Type 0 → Type 0
GoesOn false arrived next new further = (arrived ≡ false) × (new ≡ next)
GoesOn true arrived next new further = further

-- The send visits `places` places one after the other, up to one where it stops; `arrived` says whether it visited all of them.
abbrev pub Delivers : {T U : Type 0} → (BackpressureInfo → BackpressureDecision → Type 0) → ℕ → PublisherPort T U → Bool
    → PublisherPort T U → Type 0
Delivers may zero old arrived new = (arrived ≡ true) × (new ≡ old)
Delivers {T} {U} may (suc places) old arrived new =
    (went : Bool) × (next : PublisherPort T U)
    × (Steps may (meeting_at old.progress.place old) (met old.progress.place old) went next)
    × (GoesOn went arrived next new (Delivers may places next arrived new))

-- What a send answers: an error if it visited all places and is to fail; how many connections took the message if it visited all
-- places otherwise; and `Blocked` if it is blocked.
abbrev pub sent_answer : Bool → ProgressState → Result Sent SendError
sent_answer arrived progress =
    if arrived then (if progress.fails then Err sending.UnableToDeliver else Ok (sent.Delivered progress.delivered)) else Ok sent.Blocked

-- The publisher after the send was finished, if it visited all places; its message stays in use only where the history or a
-- connection has it.
abbrev pub concluded : {T U : Type 0} → Bool → PublisherPort T U → PublisherPort T U
concluded arrived port = if arrived then record port { sender = with_uses (finished port.sender.uses) port.sender } else port

-- A send visits the remaining places, and answers.
abbrev pub Finishes : {T U : Type 0} → (BackpressureInfo → BackpressureDecision → Type 0) → PublisherPort T U → Result Sent SendError
    → PublisherPort T U → Type 0
Finishes {T} {U} may old answer new =
    (arrived : Bool) × (gone : PublisherPort T U) × (Delivers may (length old.ties.items - old.progress.place) old arrived gone)
    × (answer ≡ sent_answer arrived gone.progress) × (new ≡ concluded arrived gone)

-- The place of the loan, if it may be sent: the loan is completely written, and nothing is being sent.
abbrev pub ready_at : {T U : Type 0} → Option ℕ → PublisherPort T U → Option ℕ
ready_at None port = None
ready_at (Some at) port = if is_some port.sender.uses.sending || not (is_written_at at port.sender.uses) then None else Some at

-- The place in the list of loans of the one in this slot, if that may be sent.
abbrev pub ready_loan : {T U : Type 0} → ℕ → PublisherPort T U → Option ℕ
ready_loan slot port = ready_at (position (λ loan. loan.slot == slot) port.sender.uses.loans) port

-- The publisher after the send of this loan, if there is one, began: its message gets the publisher's next sequence number.
abbrev pub begun_by : {T U : Type 0} → ℕ → Option (Loan T U) → PublisherPort T U → PublisherPort T U
begun_by at None port = port
begun_by at (Some loan) port = record port {
  progress = start;
  last_sequence = next_sequence port.last_sequence;
  sender = with_uses (begun at (sent_as (next_sequence port.last_sequence) loan) port.sender.uses) port.sender;
}

-- The publisher after the send of the loan at this place of the list began.
abbrev pub begun_at : {T U : Type 0} → ℕ → PublisherPort T U → PublisherPort T U
begun_at at port = begun_by at (slice_get port.sender.uses.loans at) port

-- The publisher after the loan at this place of the list was dropped.
abbrev pub dropped_at : {T U : Type 0} → ℕ → PublisherPort T U → PublisherPort T U
dropped_at at port = record port { sender = with_uses (dropped at port.sender.uses) port.sender }

-- What a send does after its update: if the update failed, the loan is dropped and the failure returned; otherwise the message
-- is sent to the connections.
abbrev pub SendsAfter : {T U : Type 0} → (BackpressureInfo → BackpressureDecision → Type 0) → ℕ → Result (Unit {0}) ConnectionFailure
    → PublisherPort T U → Option (Result Sent SendError) → PublisherPort T U → Type 0
SendsAfter may at (Err failure) updated answer new = (answer ≡ Some (Err (sending.ConnectionError failure))) × (new ≡ dropped_at at updated)
SendsAfter may at (Ok done) updated answer new =
    (finished : Result Sent SendError) × (Finishes may (begun_at at updated) finished new) × (answer ≡ Some finished)

-- A send by an open publisher: if its sequence numbers are used up, the loan is dropped with `InternalError`; otherwise the
-- publisher updates first.
abbrev pub SendsStanding : {T U : Type 0} → Bool → (DegradationInfo → DegradationAction → Type 0)
    → (BackpressureInfo → BackpressureDecision → Type 0) → List (Option (Member SubscriberEntry)) → ℕ → ℕ
    → PublisherPort T U → Option (Result Sent SendError) → PublisherPort T U → Type 0
SendsStanding true may_degrade may listed changes at old answer new =
    (answer ≡ Some (Err sending.InternalError)) × (new ≡ dropped_at at old)
SendsStanding {T} {U} false may_degrade may listed changes at old answer new =
    (outcome : Result (Unit {0}) ConnectionFailure) × (updated : PublisherPort T U)
    × (Updates may_degrade listed changes old outcome updated)
    × (SendsAfter may at outcome updated answer new)

-- A send by a publisher, which is open or closed; a closed one drops the loan with `ConnectionBrokenSinceSenderNoLongerExists`.
abbrev pub SendsIf : {T U : Type 0} → Bool → (DegradationInfo → DegradationAction → Type 0)
    → (BackpressureInfo → BackpressureDecision → Type 0) → List (Option (Member SubscriberEntry)) → ℕ → ℕ
    → PublisherPort T U → Option (Result Sent SendError) → PublisherPort T U → Type 0
SendsIf false may_degrade may listed changes at old answer new =
    (answer ≡ Some (Err sending.ConnectionBrokenSinceSenderNoLongerExists)) × (new ≡ dropped_at at old)
SendsIf true may_degrade may listed changes at old answer new
    = SendsStanding (is_used_up old.last_sequence) may_degrade may listed changes at old answer new

-- What a send of the loan at this place of the list answers and changes; without a loan nothing happens.
abbrev pub Sends : {T U : Type 0} → (DegradationInfo → DegradationAction → Type 0) → (BackpressureInfo → BackpressureDecision → Type 0)
    → List (Option (Member SubscriberEntry)) → ℕ → Option ℕ
    → PublisherPort T U → Option (Result Sent SendError) → PublisherPort T U → Type 0
Sends may_degrade may listed changes None old answer new = (answer ≡ None) × (new ≡ old)
Sends may_degrade may listed changes (Some at) old answer new = SendsIf old.stands may_degrade may listed changes at old answer new
