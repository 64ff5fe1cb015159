-- A publisher follows the subscribers, sends and is closed.
use Rattle.std.specs.Prelude.{ℕ, ◌≡◌, ◌&&◌, Bool, true, false, not, List, is_some, Option, None, Some, Result}
use Rattle.iox_domain_ports.specs.Container.declared.container.Member.{Member}
use Rattle.iox_domain_ports.specs.DomainValues.declared.backpressure.BackpressureDecision.{BackpressureDecision}
use Rattle.iox_domain_ports.specs.DomainValues.declared.backpressure.BackpressureInfo.{BackpressureInfo}
use Rattle.iox_domain_ports.specs.DomainValues.declared.connection_failure.ConnectionFailure.{ConnectionFailure}
use Rattle.iox_domain_ports.specs.DomainValues.declared.degradation.DegradationAction.{DegradationAction}
use Rattle.iox_domain_ports.specs.DomainValues.declared.degradation.DegradationInfo.{DegradationInfo}
use Rattle.iox_domain_ports.specs.DomainValues.declared.port_error.SendError.{SendError}
use Rattle.iox_domain_ports.specs.Leaving.{departed}
use Rattle.iox_domain_ports.specs.Progress.{tried_again}
use Rattle.iox_domain_ports.specs.Sending.{ready_loan, with_progress, concluded, Sends, Finishes}
use Rattle.iox_domain_ports.specs.PublisherUpdating.{Updates}
use Rattle.iox_domain_ports.specs.declared.meeting.Sent.{Sent}
use Rattle.iox_domain_ports.specs.declared.publisher_port.PublisherPort.{PublisherPort}
use Rattle.iox_domain_ports.specs.declared.subscriber_entry.SubscriberEntry.{SubscriberEntry}
use Rattle.iox_domain.specs.Ports.{with_publisher}
use Rattle.iox_domain.specs.Rolls.{RollState, IsListOf, left}
use Rattle.iox_domain.specs.declared.ports.service_ports.ServicePorts.{ServicePorts}

-- Whether a send of the publisher is blocked at a full mailbox.
abbrev pub is_blocked : {T U : Type 0} → PublisherPort T U → Bool
is_blocked port = is_some port.sender.uses.sending

-- Whether the publisher is open, and no send of it is blocked.
abbrev pub is_free : {T U : Type 0} → PublisherPort T U → Bool
is_free port = port.stands && not (is_blocked port)

-- A free publisher follows the list of subscribers; at another one nothing happens.
abbrev pub UpdatesIf : {T U : Type 0} → Bool → (DegradationInfo → DegradationAction → Type 0) → RollState SubscriberEntry
    → PublisherPort T U → Option (Result (Unit {0}) ConnectionFailure) → PublisherPort T U → Type 0
UpdatesIf false may list port answer after = (answer ≡ None) × (after ≡ port)
UpdatesIf true may list port answer after =
    (listed : List (Option (Member SubscriberEntry))) × IsListOf listed list
    × (outcome : Result (Unit {0}) ConnectionFailure) × Updates may listed list.changes port outcome after × (answer ≡ Some outcome)

-- What an update of the publisher over the list of subscribers answers and changes.
abbrev pub UpdatesOne : {T U : Type 0} → (DegradationInfo → DegradationAction → Type 0) → RollState SubscriberEntry → PublisherPort T U
    → Option (Result (Unit {0}) ConnectionFailure) → PublisherPort T U → Type 0
UpdatesOne may list port answer after = UpdatesIf (is_free port) may list port answer after

-- What a send of the loan in this slot over the list of subscribers answers and changes.
abbrev pub SendsOne : {T U : Type 0} → (DegradationInfo → DegradationAction → Type 0)
    → (BackpressureInfo → BackpressureDecision → Type 0) → RollState SubscriberEntry → ℕ → PublisherPort T U
    → Option (Result Sent SendError) → PublisherPort T U → Type 0
SendsOne may_degrade may list slot port answer after =
    (listed : List (Option (Member SubscriberEntry))) × IsListOf listed list
    × Sends may_degrade may listed list.changes (ready_loan slot port) port answer after

-- If a send is blocked, it is tried again; otherwise nothing happens.
abbrev pub RetriesIf : {T U : Type 0} → Bool → (BackpressureInfo → BackpressureDecision → Type 0) → ℕ → PublisherPort T U
    → Option (Result Sent SendError) → PublisherPort T U → Type 0
RetriesIf false may elapsed port answer after = (answer ≡ None) × (after ≡ port)
RetriesIf true may elapsed port answer after =
    (outcome : Result Sent SendError) × Finishes may (with_progress (tried_again elapsed port.progress) port) outcome after
    × (answer ≡ Some outcome)

-- What a retry of the publisher's blocked send answers and changes.
abbrev pub RetriesOne : {T U : Type 0} → (BackpressureInfo → BackpressureDecision → Type 0) → ℕ → PublisherPort T U
    → Option (Result Sent SendError) → PublisherPort T U → Type 0
RetriesOne may elapsed port answer after = RetriesIf (is_blocked port) may elapsed port answer after

-- If a send is blocked, it is given up; otherwise nothing happens.
abbrev pub GivesUpIf : {T U : Type 0} → Bool → PublisherPort T U → Option ℕ → PublisherPort T U → Type 0
GivesUpIf false port answer after = (answer ≡ None) × (after ≡ port)
GivesUpIf true port answer after = (answer ≡ Some port.progress.delivered) × (after ≡ concluded true port)

-- What giving up the publisher's blocked send answers and changes: it answers how many connections took the message.
abbrev pub GivesUpOne : {T U : Type 0} → PublisherPort T U → Option ℕ → PublisherPort T U → Type 0
GivesUpOne port answer after = GivesUpIf (is_blocked port) port answer after

-- A free publisher is closed; at another one nothing happens.
abbrev pub LeavesIf : {T U : Type 0} → Bool → PublisherPort T U → Option ℕ → PublisherPort T U → Type 0
LeavesIf false port answer after = (answer ≡ None) × (after ≡ port)
LeavesIf true port answer after = (answer ≡ Some port.place) × (after ≡ departed port)

-- What closing the publisher answers and changes: it answers the place at which the publisher was listed.
abbrev pub LeavesOne : {T U : Type 0} → PublisherPort T U → Option ℕ → PublisherPort T U → Type 0
LeavesOne port answer after = LeavesIf (is_free port) port answer after

-- A free publisher is closed and removed from the list; at another one nothing happens.
abbrev pub LeavesPortIf : {T U : Type 0} → Bool → ℕ → PublisherPort T U → ServicePorts T U → Bool → ServicePorts T U → Type 0
LeavesPortIf false number port old answer new = (answer ≡ false) × (new ≡ old)
LeavesPortIf true number port old answer new =
    (answer ≡ true) × (new ≡ record (with_publisher number (departed port) old) { publisher_list = left port.place old.publisher_list })

-- What closing the publisher with this number answers and changes, if it exists.
abbrev pub LeavesAt : {T U : Type 0} → ℕ → Option (PublisherPort T U) → ServicePorts T U → Bool → ServicePorts T U → Type 0
LeavesAt number None old answer new = (answer ≡ false) × (new ≡ old)
LeavesAt number (Some port) old answer new = LeavesPortIf (is_free port) number port old answer new
