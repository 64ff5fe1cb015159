-- The sequence numbers of what lanes find to wait in a domain.
use Rattle.std.specs.Prelude.{ℕ, ◌≡◌, true, List, map, slice_get, unwrap_or, Some}
use Rattle.iox_domain.specs.Calls.{PortCall}
use Rattle.iox_domain.specs.DomainPorts.Messages.{Message}
use Rattle.iox_domain.specs.DomainPorts.Ports.{connection_of}
use Rattle.iox_domain.specs.DomainPorts.Publishers.{port_of}
use Rattle.iox_domain.specs.DomainPorts.declared.publisher_port.PublisherPort.{PublisherPort}
use Rattle.iox_domain.specs.DomainValues.declared.backpressure.BackpressureDecision.{BackpressureDecision}
use Rattle.iox_domain.specs.DomainValues.declared.backpressure.BackpressureInfo.{BackpressureInfo}
use Rattle.iox_domain.specs.DomainValues.declared.degradation.DegradationAction.{DegradationAction}
use Rattle.iox_domain.specs.DomainValues.declared.degradation.DegradationInfo.{DegradationInfo}
use Rattle.iox_domain.specs.DomainValues.declared.service_sizes.ServiceSizes.{ServiceSizes}
use Rattle.iox_domain.specs.Order.{Happen, leads_at}
use Rattle.iox_domain.specs.Ports.{no_ports}
use Rattle.iox_domain.specs.declared.ports.service_ports.ServicePorts.{ServicePorts}
use Rattle.iox_lanes_laws.specs.Messages.{MessageState}
use Rattle.iox_lanes_laws.specs.Sequences.{GoUpTo, sequences_found}
use Rattle.iox_lanes_machine.specs.LanesParties.Parties.{PublisherLaneState}
use Rattle.iox_lanes_machine.specs.Links.{LinkState}
use Rattle.iox_lanes_machine.specs.World.{World}

-- The sequence numbers of what waits at a connection of a publisher, the oldest first; a message without one counts as 0.
abbrev pub waiting_sequences : {T U : Type 0} → ℕ → PublisherPort T U → List ℕ
waiting_sequences {T} {U} index port = map (λ (message : Message T U). unwrap_or message.sequence 0) (connection_of index port).waiting

-- At each connection that leads to a subscriber, of a publisher with sequence numbers, the numbers of what waits rise: they are larger than
-- 0, and at most the publisher's last number.
abbrev pub SequencesWait : {T U : Type 0} → ServicePorts T U → Type 0
SequencesWait {T} {U} ports = (number last index subscriber : ℕ) (port : PublisherPort T U) → port_of number ports.publishers ≡ Some port
    → port.last_sequence ≡ Some last → leads_at index subscriber port ≡ true → GoUpTo 0 (waiting_sequences index port) last

-- At each connection of lanes whose publisher has sequence numbers, those of the messages that were found to wait there rise: they are
-- larger than 0, and at most the publisher's last number.
abbrev pub SequencesFound : World → List MessageState → Type 0
SequencesFound m messages = (connection last : ℕ) (link : LinkState) (lane : PublisherLaneState) → slice_get m.links connection ≡ Some link
    → slice_get m.publishers link.publisher ≡ Some lane → lane.last ≡ Some last → GoUpTo 0 (sequences_found messages link) last

-- After any calls of a new service, the sequence numbers of what waits rise as `SequencesWait` says.
abbrev pub SequencesStayUp : (T U : Type 0) → (ℕ → ℕ → Type 0) → (DegradationInfo → DegradationAction → Type 0)
    → (BackpressureInfo → BackpressureDecision → Type 0) → Type 0
SequencesStayUp T U overrides may decide = (service : ℕ) (sizes : ServiceSizes) (calls : List (PortCall T U × ServicePorts T U))
    (new : ServicePorts T U) → Happen overrides may decide calls (no_ports service sizes) new → SequencesWait new
