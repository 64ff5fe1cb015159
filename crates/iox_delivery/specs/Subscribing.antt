-- What the calls of a subscriber and of its samples answer and change in their home. `ports_of` finds the ports of a domain in
-- a home, and `with_ports` replaces them.
use Rattle.std.specs.Prelude.{ℕ, ◌≡◌, Bool, true, false, Option, None, Some, Result, Ok, Err}
use Rattle.iox_domain.specs.DescribeBase.declared.header.Header.{Header}
use Rattle.iox_domain.specs.DomainValues.declared.connection_failure.ConnectionFailure.{ConnectionFailure}
use Rattle.iox_domain.specs.DomainValues.declared.degradation.DegradationAction.{DegradationAction}
use Rattle.iox_domain.specs.DomainValues.declared.degradation.DegradationInfo.{DegradationInfo}
use Rattle.iox_domain.specs.DomainValues.declared.port_error.ReceiveError.{ReceiveError}
use Rattle.iox_domain.specs.DomainPorts.declared.attached.Taken.{Taken}
use Rattle.iox_domain.specs.Reading.{header_in}
use Rattle.iox_domain.specs.PortsSubscribing.{Releases}
use Rattle.iox_domain.specs.declared.ports.service_ports.ServicePorts.{ServicePorts}
use Rattle.iox_domain.specs.AtHomes.{AtDomain, LeavesDomain}
use Rattle.iox_domain.specs.Steps.{FollowsBy, TellsBy, ReceivesBy, SubscriberLeaves}
use Rattle.iox_domain.specs.declared.domain_id.DomainId.{DomainId}
use Rattle.iox_delivery.specs.declared.port_id.PortId.{PortId}
use Rattle.iox_delivery.specs.declared.sample.Sample.{Sample}

-- The sample of a message that the subscriber took, as a value.
abbrev pub sample_of : {T U K : Type 0} → PortId → Taken → Sample T U K
sample_of port taken = record { port = port; taken = taken; of = record {} }

-- The answer of a receive, with the sample as a value.
abbrev pub received_of : {T U K : Type 0} → PortId → Result (Option Taken) ReceiveError → Result (Option (Sample T U K)) ReceiveError
received_of port (Ok (Some taken)) = Ok (Some (sample_of port taken))
received_of port (Ok None) = Ok None
received_of port (Err error) = Err error

-- The header of a held sample, if the home has it.
abbrev pub header_found : {T U : Type 0} → Taken → Option (ServicePorts T U) → Option Header
header_found taken None = None
header_found taken (Some ports) = header_in taken ports

-- What an update of the subscriber answers and changes.
abbrev pub FollowsPublishers : {T U H : Type 0} → (DomainId → H → Option (ServicePorts T U)) → (DomainId → ServicePorts T U → H → H)
    → (DomainId → ℕ → H → DegradationInfo → DegradationAction → Type 0) → PortId → H → Result (Unit {0}) ConnectionFailure → H → Type 0
FollowsPublishers ports_of with_ports degrades port old answer new =
    AtDomain (λ after. with_ports port.domain after old) (FollowsBy (degrades port.domain port.number old) port.number)
    (ports_of port.domain old) old (Some answer) new

-- What `has_samples` answers and changes: whether some connection of the subscriber has data.
abbrev pub TellsSamples : {T U H : Type 0} → (DomainId → H → Option (ServicePorts T U)) → (DomainId → ServicePorts T U → H → H)
    → (DomainId → ℕ → H → DegradationInfo → DegradationAction → Type 0) → PortId → H → Result Bool ConnectionFailure → H → Type 0
TellsSamples ports_of with_ports degrades port old answer new =
    AtDomain (λ after. with_ports port.domain after old) (TellsBy (degrades port.domain port.number old) port.number)
    (ports_of port.domain old) old (Some answer) new

-- What taking the next message, if one waits, answers and changes.
abbrev pub TakesMessage : {T U H : Type 0} → (DomainId → H → Option (ServicePorts T U)) → (DomainId → ServicePorts T U → H → H)
    → (DomainId → ℕ → H → DegradationInfo → DegradationAction → Type 0) → PortId → H → Result (Option Taken) ReceiveError → H → Type 0
TakesMessage ports_of with_ports degrades port old answer new =
    AtDomain (λ after. with_ports port.domain after old) (ReceivesBy (degrades port.domain port.number old) port.number)
    (ports_of port.domain old) old (Some answer) new

-- What a receive of the subscriber answers and changes.
abbrev pub ReceivesSample : {T U K H : Type 0} → (DomainId → H → Option (ServicePorts T U)) → (DomainId → ServicePorts T U → H → H)
    → (DomainId → ℕ → H → DegradationInfo → DegradationAction → Type 0) → PortId → H → Result (Option (Sample T U K)) ReceiveError → H
    → Type 0
ReceivesSample ports_of with_ports degrades port old answer new =
    (received : Result (Option Taken) ReceiveError) × TakesMessage ports_of with_ports degrades port old received new
    × (answer ≡ received_of port received)

-- What closing the subscriber changes; the call closes it in any case.
abbrev pub SubscriberGoes : {T U H : Type 0} → (DomainId → H → Option (ServicePorts T U)) → (DomainId → ServicePorts T U → H → H)
    → (DomainId → ℕ → H → H) → PortId → H → H → Type 0
SubscriberGoes ports_of with_ports without port old new =
    LeavesDomain (λ after. with_ports port.domain after old) (without port.domain port.number) (SubscriberLeaves port.number)
    (ports_of port.domain old) old true new

-- What dropping the subscriber answers and changes: it is closed if it is open, and otherwise nothing happens.
abbrev pub EndsSubscriber : {T U H : Type 0} → (DomainId → H → Option (ServicePorts T U)) → (DomainId → ServicePorts T U → H → H)
    → (DomainId → ℕ → H → H) → PortId → H → Bool → H → Type 0
EndsSubscriber ports_of with_ports without port old left new =
    LeavesDomain (λ after. with_ports port.domain after old) (without port.domain port.number) (SubscriberLeaves port.number)
    (ports_of port.domain old) old left new

-- The sample is released by the subscriber with this number.
abbrev pub ReleasesOne : {T U : Type 0} → ℕ → Taken → ServicePorts T U → Option (Unit {0}) → ServicePorts T U → Type 0
ReleasesOne number taken old answer new = Releases number taken old true new

-- What releasing a held sample changes.
abbrev pub ReleasesSample : {T U H : Type 0} → (DomainId → H → Option (ServicePorts T U)) → (DomainId → ServicePorts T U → H → H)
    → PortId → Taken → H → H → Type 0
ReleasesSample ports_of with_ports port taken old new =
    AtDomain (λ after. with_ports port.domain after old) (ReleasesOne port.number taken) (ports_of port.domain old) old (Some tt) new

-- What dropping a sample of a domain answers and changes: it is released if it is held. If the home doesn't contain the domain
-- nothing happens.
abbrev pub DropsAt : {T U H : Type 0} → (ServicePorts T U → H) → ℕ → Taken → Option (ServicePorts T U) → H → Bool → H → Type 0
DropsAt with_ports number taken None old answer new = (answer ≡ false) × (new ≡ old)
DropsAt {T} {U} with_ports number taken (Some ports) old answer new = (after : ServicePorts T U)
    × Releases number taken ports answer after × (new ≡ with_ports after)

-- What dropping a sample answers and changes: it is released if it is held.
abbrev pub DropsSample : {T U H : Type 0} → (DomainId → H → Option (ServicePorts T U)) → (DomainId → ServicePorts T U → H → H) → PortId
    → Taken → H → Bool → H → Type 0
DropsSample ports_of with_ports port taken old answer new
    = DropsAt (λ after. with_ports port.domain after old) port.number taken (ports_of port.domain old) old answer new
