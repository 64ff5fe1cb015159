-- What the calls of a numbered port do to their home. `ports_of` finds the ports of a domain in a home, `with_ports` replaces them.
use Rattle.std.specs.Prelude.{ℕ, ◌≡◌, ◌&&◌, Bool, false, not, List, replicate, Option, None, Some, Result, IfOk, if◌then◌else◌}
use Rattle.iox_delivery.specs.DomainValues.declared.backpressure.BackpressureDecision.{BackpressureDecision}
use Rattle.iox_delivery.specs.DomainValues.declared.backpressure.BackpressureInfo.{BackpressureInfo}
use Rattle.iox_delivery.specs.DomainValues.declared.connection_failure.ConnectionFailure.{ConnectionFailure}
use Rattle.iox_delivery.specs.DomainValues.declared.degradation.DegradationAction.{DegradationAction}
use Rattle.iox_delivery.specs.DomainValues.declared.degradation.DegradationInfo.{DegradationInfo}
use Rattle.iox_delivery.specs.DomainValues.declared.port_error.LoanError.{LoanError}
use Rattle.iox_delivery.specs.DomainValues.declared.port_error.ReceiveError.{ReceiveError}
use Rattle.iox_delivery.specs.DomainValues.declared.port_error.SendError.{SendError}
use Rattle.iox_delivery.specs.DomainPorts.declared.meeting.Sent.{Sent}
use Rattle.iox_delivery.specs.DomainPorts.declared.attached.Taken.{Taken}
use Rattle.iox_delivery.specs.Domain.declared.ports.service_ports.ServicePorts.{ServicePorts}
use Rattle.iox_delivery.specs.Domain.AtHomes.{AtDomain, LeavesDomain}
use Rattle.iox_delivery.specs.Domain.Steps as steps
use Rattle.iox_delivery.specs.Domain.declared.domain_id.DomainId.{DomainId}
use Rattle.iox_delivery.specs.Holding.{publisher_stands, publisher_blocked}
use Rattle.iox_delivery.specs.Lent.{IsReady}
use Rattle.iox_delivery.specs.declared.port_id.PortId.{PortId}
use Rattle.iox_delivery.specs.Slices.{LendsFilled, SendsValues}

-- A call at the port of a number; nothing happens if the number has none.
abbrev pub AtPort : {H A : Type 0} → (PortId → H → Option A → H → Type 0) → Option PortId → H → Option A → H → Type 0
AtPort call None old answer new = (answer ≡ None) × (new ≡ old)
AtPort call (Some port) old answer new = call port old answer new

-- A call at the port of a number, which returns whether something happened. Nothing happens if the number has no port.
abbrev pub AtPortIf : {H : Type 0} → (PortId → H → Bool → H → Type 0) → Option PortId → H → Bool → H → Type 0
AtPortIf call None old answer new = (answer ≡ false) × (new ≡ old)
AtPortIf call (Some port) old answer new = call port old answer new

-- A publisher loans a slot for this many elements.
abbrev pub Lends : {T U H : Type 0} → (DomainId → H → Option (ServicePorts T U)) → (DomainId → ServicePorts T U → H → H) → ℕ → PortId
    → H → Option (Result ℕ LoanError) → H → Type 0
Lends ports_of with_ports elements port old answer new =
    AtDomain (λ after. with_ports port.domain after old) (steps.LoansBy port.number elements elements) (ports_of port.domain old) old
    answer new

-- Whether a publisher may loan: its domain is in the hub, it is open, and no send of it is blocked.
abbrev pub may_lend : {T U H : Type 0} → (DomainId → H → Option (ServicePorts T U)) → PortId → H → Bool
may_lend ports_of port home = publisher_stands port.number (ports_of port.domain home)
    && not (publisher_blocked port.number (ports_of port.domain home))

-- The port of a publisher, if it may loan.
abbrev pub ready : {T U H : Type 0} → (DomainId → H → Option (ServicePorts T U)) → Option PortId → H → Option PortId
ready ports_of None home = None
ready ports_of (Some port) home = if may_lend ports_of port home then Some port else None

-- A publisher loans a slot for this many elements, and each element is written with the same value. Afterwards the loan has exactly these
-- values.
abbrev pub LendsWritten : {T U H : Type 0} → (DomainId → H → Option (ServicePorts T U)) → (DomainId → ServicePorts T U → H → H) → ℕ → T
    → PortId → H → Option (Result ℕ LoanError) → H → Type 0
LendsWritten ports_of with_ports elements value port old answer new =
    (lent : Result ℕ LoanError) × LendsFilled ports_of with_ports port elements value old lent new
    × IfOk lent (λ slot. IsReady port.number (replicate elements value) elements slot (ports_of port.domain new)) × (answer ≡ Some lent)

-- A publisher loans a slot for these values, writes and sends them.
abbrev pub Puts : {T U H : Type 0} → (DomainId → H → Option (ServicePorts T U)) → (DomainId → ServicePorts T U → H → H)
    → (DomainId → ℕ → H → DegradationInfo → DegradationAction → Type 0)
    → (DomainId → ℕ → H → BackpressureInfo → BackpressureDecision → Type 0) → List T → PortId → H → Option (Result Sent SendError) → H
    → Type 0
Puts ports_of with_ports degrades decides values port old answer new =
    (sent : Result Sent SendError) × SendsValues ports_of with_ports degrades decides port values old sent new × (answer ≡ Some sent)

-- A publisher follows the list of subscribers.
abbrev pub Follows : {T U H : Type 0} → (DomainId → H → Option (ServicePorts T U)) → (DomainId → ServicePorts T U → H → H)
    → (DomainId → ℕ → H → DegradationInfo → DegradationAction → Type 0) → PortId → H → Option (Result (Unit {0}) ConnectionFailure) → H
    → Type 0
Follows ports_of with_ports degrades port old answer new =
    AtDomain (λ after. with_ports port.domain after old) (steps.UpdatesBy (degrades port.domain port.number old) port.number)
    (ports_of port.domain old) old answer new

-- A publisher sends the written loan in a slot.
abbrev pub Sends : {T U H : Type 0} → (DomainId → H → Option (ServicePorts T U)) → (DomainId → ServicePorts T U → H → H)
    → (DomainId → ℕ → H → DegradationInfo → DegradationAction → Type 0)
    → (DomainId → ℕ → H → BackpressureInfo → BackpressureDecision → Type 0) → ℕ → PortId → H → Option (Result Sent SendError) → H → Type 0
Sends ports_of with_ports degrades decides slot port old answer new =
    AtDomain (λ after. with_ports port.domain after old)
    (steps.SendsBy (degrades port.domain port.number old) (decides port.domain port.number old) port.number slot)
    (ports_of port.domain old) old answer new

-- The blocked send of a publisher is tried again.
abbrev pub Retries : {T U H : Type 0} → (DomainId → H → Option (ServicePorts T U)) → (DomainId → ServicePorts T U → H → H)
    → (DomainId → ℕ → H → BackpressureInfo → BackpressureDecision → Type 0) → ℕ → PortId → H → Option (Result Sent SendError) → H → Type 0
Retries ports_of with_ports decides elapsed port old answer new =
    AtDomain (λ after. with_ports port.domain after old) (steps.RetriesBy (decides port.domain port.number old) port.number elapsed)
    (ports_of port.domain old) old answer new

-- The blocked send of a publisher is given up.
abbrev pub GivesUp : {T U H : Type 0} → (DomainId → H → Option (ServicePorts T U)) → (DomainId → ServicePorts T U → H → H) → PortId → H
    → Option ℕ → H → Type 0
GivesUp ports_of with_ports port old answer new
    = AtDomain (λ after. with_ports port.domain after old) (steps.GivesUpBy port.number) (ports_of port.domain old) old answer new

-- A publisher is closed.
abbrev pub PublisherGoes : {T U H : Type 0} → (DomainId → H → Option (ServicePorts T U)) → (DomainId → ServicePorts T U → H → H)
    → (DomainId → ℕ → H → H) → PortId → H → Bool → H → Type 0
PublisherGoes ports_of with_ports without port old answer new =
    LeavesDomain (λ after. with_ports port.domain after old) (without port.domain port.number) (steps.PublisherLeaves port.number)
    (ports_of port.domain old) old answer new

-- A subscriber follows the list of publishers.
abbrev pub FollowsPublishers : {T U H : Type 0} → (DomainId → H → Option (ServicePorts T U)) → (DomainId → ServicePorts T U → H → H)
    → (DomainId → ℕ → H → DegradationInfo → DegradationAction → Type 0) → PortId → H → Option (Result (Unit {0}) ConnectionFailure) → H
    → Type 0
FollowsPublishers ports_of with_ports degrades port old answer new =
    AtDomain (λ after. with_ports port.domain after old) (steps.FollowsBy (degrades port.domain port.number old) port.number)
    (ports_of port.domain old) old answer new

-- The reply says whether some connection of the subscriber has data.
abbrev pub Tells : {T U H : Type 0} → (DomainId → H → Option (ServicePorts T U)) → (DomainId → ServicePorts T U → H → H)
    → (DomainId → ℕ → H → DegradationInfo → DegradationAction → Type 0) → PortId → H → Option (Result Bool ConnectionFailure) → H → Type 0
Tells ports_of with_ports degrades port old answer new =
    AtDomain (λ after. with_ports port.domain after old) (steps.TellsBy (degrades port.domain port.number old) port.number)
    (ports_of port.domain old) old answer new

-- A subscriber receives.
abbrev pub Receives : {T U H : Type 0} → (DomainId → H → Option (ServicePorts T U)) → (DomainId → ServicePorts T U → H → H)
    → (DomainId → ℕ → H → DegradationInfo → DegradationAction → Type 0) → PortId → H → Option (Result (Option Taken) ReceiveError) → H
    → Type 0
Receives ports_of with_ports degrades port old answer new =
    AtDomain (λ after. with_ports port.domain after old) (steps.ReceivesBy (degrades port.domain port.number old) port.number)
    (ports_of port.domain old) old answer new

-- A subscriber is closed.
abbrev pub SubscriberGoes : {T U H : Type 0} → (DomainId → H → Option (ServicePorts T U)) → (DomainId → ServicePorts T U → H → H)
    → (DomainId → ℕ → H → H) → PortId → H → Bool → H → Type 0
SubscriberGoes ports_of with_ports without port old answer new =
    LeavesDomain (λ after. with_ports port.domain after old) (without port.domain port.number) (steps.SubscriberLeaves port.number)
    (ports_of port.domain old) old answer new
