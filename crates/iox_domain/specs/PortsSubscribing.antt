-- A subscriber follows the publishers, receives, releases and is closed.
use Rattle.std.specs.Prelude.{ℕ, ◌≡◌, ◌==◌, ◌+◌, ◌-◌, ◌^◌, min, Bool, true, false, List, Option, None, Some, Result, Ok, Err, if◌then◌else◌}
use Rattle.iox_domain_ports.specs.Container.declared.container.Member.{Member}
use Rattle.iox_domain_ports.specs.DomainValues.declared.connection_failure.ConnectionFailure.{ConnectionFailure}
use Rattle.iox_domain_ports.specs.DomainValues.declared.degradation.DegradationAction.{DegradationAction}
use Rattle.iox_domain_ports.specs.DomainValues.declared.degradation.DegradationInfo.{DegradationInfo}
use Rattle.iox_domain_ports.specs.DomainValues.declared.port_error.ReceiveError.{ReceiveError}
use Rattle.iox_domain_ports.specs.declared.publisher_port.PublisherPort.{PublisherPort}
use Rattle.iox_domain_ports.specs.Publishers.{connection_in, released}
use Rattle.iox_domain_ports.specs.Reading.{place_of}
use Rattle.iox_domain_ports.specs.Receiving.{left_all}
use Rattle.iox_domain_ports.specs.SubscriberUpdating.{Updates, HasSamples, ReceivesNext}
use Rattle.iox_domain_ports.specs.declared.attached.Taken.{Taken}
use Rattle.iox_domain_ports.specs.declared.publisher_entry.PublisherEntry.{PublisherEntry}
use Rattle.iox_domain_ports.specs.declared.subscriber_port.SubscriberPort.{SubscriberPort}
use Rattle.iox_domain.specs.Rolls.{RollState, IsListOf, left}
use Rattle.iox_domain.specs.Subscribers.{subscriber_of, with_subscriber, settled}
use Rattle.iox_domain.specs.declared.ports.service_ports.ServicePorts.{ServicePorts}

-- An open subscriber follows the list of publishers; at a closed one nothing happens.
abbrev pub UpdatesIf : {T U : Type 0} → Bool → (DegradationInfo → DegradationAction → Type 0) → RollState PublisherEntry
    → SubscriberPort → List (ℕ × PublisherPort T U) → Option (Result (Unit {0}) ConnectionFailure) → SubscriberPort
    → List (ℕ × PublisherPort T U) → Type 0
UpdatesIf false may list port ports answer after ports_after = (answer ≡ None) × (after ≡ port) × (ports_after ≡ ports)
UpdatesIf true may list port ports answer after ports_after =
    (listed : List (Option (Member PublisherEntry))) × IsListOf listed list
    × (outcome : Result (Unit {0}) ConnectionFailure) × Updates may listed list.changes port ports outcome after ports_after
    × (answer ≡ Some outcome)

-- What an update of the subscriber over the list of publishers answers and changes.
abbrev pub UpdatesOne : {T U : Type 0} → (DegradationInfo → DegradationAction → Type 0) → RollState PublisherEntry → SubscriberPort
    → List (ℕ × PublisherPort T U) → Option (Result (Unit {0}) ConnectionFailure) → SubscriberPort → List (ℕ × PublisherPort T U) → Type 0
UpdatesOne may list port ports answer after ports_after = UpdatesIf port.stands may list port ports answer after ports_after

-- An open subscriber updates and says whether some connection has data; at a closed one nothing happens.
abbrev pub HasSamplesIf : {T U : Type 0} → Bool → (DegradationInfo → DegradationAction → Type 0) → RollState PublisherEntry
    → SubscriberPort → List (ℕ × PublisherPort T U) → Option (Result Bool ConnectionFailure) → SubscriberPort
    → List (ℕ × PublisherPort T U) → Type 0
HasSamplesIf false may list port ports answer after ports_after = (answer ≡ None) × (after ≡ port) × (ports_after ≡ ports)
HasSamplesIf true may list port ports answer after ports_after =
    (listed : List (Option (Member PublisherEntry))) × IsListOf listed list
    × (outcome : Result Bool ConnectionFailure) × HasSamples may listed list.changes port ports outcome after ports_after
    × (answer ≡ Some outcome)

-- What `has_samples` answers and changes: after an update, whether some connection of the subscriber has data.
abbrev pub HasSamplesOne : {T U : Type 0} → (DegradationInfo → DegradationAction → Type 0) → RollState PublisherEntry → SubscriberPort
    → List (ℕ × PublisherPort T U) → Option (Result Bool ConnectionFailure) → SubscriberPort → List (ℕ × PublisherPort T U) → Type 0
HasSamplesOne may list port ports answer after ports_after = HasSamplesIf port.stands may list port ports answer after ports_after

-- The subscriber after a received sample, if there is one, was counted as held; held samples are counted up to 2^64 - 1.
abbrev pub counted_by : Result (Option Taken) ReceiveError → SubscriberPort → SubscriberPort
counted_by (Ok (Some taken)) port = record port { held = min (port.held + 1) (2 ^ 64 - 1) }
counted_by (Ok None) port = port
counted_by (Err error) port = port

-- An open subscriber receives; at a closed one nothing happens.
abbrev pub ReceivesIf : {T U : Type 0} → Bool → (DegradationInfo → DegradationAction → Type 0) → RollState PublisherEntry
    → SubscriberPort → List (ℕ × PublisherPort T U) → Option (Result (Option Taken) ReceiveError) → SubscriberPort
    → List (ℕ × PublisherPort T U) → Type 0
ReceivesIf false may list port ports answer after ports_after = (answer ≡ None) × (after ≡ port) × (ports_after ≡ ports)
ReceivesIf true may list port ports answer after ports_after =
    (listed : List (Option (Member PublisherEntry))) × IsListOf listed list
    × (outcome : Result (Option Taken) ReceiveError) × (received : SubscriberPort)
    × ReceivesNext may listed list.changes port ports outcome received ports_after
    × (after ≡ counted_by outcome received) × (answer ≡ Some outcome)

-- What a receive answers and changes: the subscriber updates, receives, and holds the sample that it received.
abbrev pub ReceivesOne : {T U : Type 0} → (DegradationInfo → DegradationAction → Type 0) → RollState PublisherEntry → SubscriberPort
    → List (ℕ × PublisherPort T U) → Option (Result (Option Taken) ReceiveError) → SubscriberPort → List (ℕ × PublisherPort T U) → Type 0
ReceivesOne may list port ports answer after ports_after = ReceivesIf port.stands may list port ports answer after ports_after

-- The subscribers after this one released a sample that it held.
abbrev pub let_go_at : ℕ → Option SubscriberPort → List (ℕ × SubscriberPort) → List (ℕ × SubscriberPort)
let_go_at number None ports = ports
let_go_at number (Some port) ports = with_subscriber number ports (record port { held = port.held - 1 })

-- The ports after the subscriber with this number released a sample that it held; a subscriber that is over then is removed.
abbrev pub let_go : {T U : Type 0} → ℕ → ServicePorts T U → ServicePorts T U
let_go number ports = record ports
    { subscribers = settled number (let_go_at number (subscriber_of number ports.subscribers) ports.subscribers) }

-- The sample at this place of the borrowed ones is released; without such a place nothing happens.
abbrev pub ReleasesAt : {T U : Type 0} → ℕ → Taken → Option ℕ → ServicePorts T U → Bool → ServicePorts T U → Type 0
ReleasesAt number sample None old answer new = (answer ≡ false) × (new ≡ old)
ReleasesAt number sample (Some at) old answer new =
    (answer ≡ true) × (new ≡ let_go number (record old { publishers = released sample.publisher sample.index (Some at) old.publishers }))

-- A sample of the subscriber is released; without a subscriber nothing happens.
abbrev pub ReleasesOf : {T U : Type 0} → Option SubscriberPort → ℕ → Taken → ServicePorts T U → Bool → ServicePorts T U → Type 0
ReleasesOf None number sample old answer new = (answer ≡ false) × (new ≡ old)
ReleasesOf (Some port) number sample old answer new =
    ReleasesAt number sample (place_of sample.slot (connection_in sample.publisher sample.index old.publishers)) old answer new

-- The subscriber with this number, if it received this sample.
abbrev pub taker_of : ℕ → Taken → List (ℕ × SubscriberPort) → Option SubscriberPort
taker_of number sample ports = if sample.subscriber == number then subscriber_of number ports else None

-- What releasing the sample by the subscriber with this number answers and changes; if another one received the sample, nothing
-- happens.
abbrev pub Releases : {T U : Type 0} → ℕ → Taken → ServicePorts T U → Bool → ServicePorts T U → Type 0
Releases number sample old answer new = ReleasesOf (taker_of number sample old.subscribers) number sample old answer new

-- An open subscriber is closed; at a closed one nothing happens.
abbrev pub LeavesIf : {T U : Type 0} → Bool → SubscriberPort → List (ℕ × PublisherPort T U) → Option ℕ → SubscriberPort
    → List (ℕ × PublisherPort T U) → Type 0
LeavesIf false port ports answer after ports_after = (answer ≡ None) × (after ≡ port) × (ports_after ≡ ports)
LeavesIf true port ports answer after ports_after =
    (answer ≡ Some port.place) × (after ≡ record port { stands = false }) × (ports_after ≡ left_all port.connections.values ports)

-- What closing the subscriber answers and changes: it answers the place at which the subscriber was listed.
abbrev pub LeavesOne : {T U : Type 0} → SubscriberPort → List (ℕ × PublisherPort T U) → Option ℕ → SubscriberPort
    → List (ℕ × PublisherPort T U) → Type 0
LeavesOne port ports answer after ports_after = LeavesIf port.stands port ports answer after ports_after

-- An open subscriber is closed and removed from the list; at a closed one nothing happens.
abbrev pub LeavesPortIf : {T U : Type 0} → Bool → ℕ → SubscriberPort → ServicePorts T U → Bool → ServicePorts T U → Type 0
LeavesPortIf false number port old answer new = (answer ≡ false) × (new ≡ old)
LeavesPortIf true number port old answer new =
    (answer ≡ true) × (new ≡ record old {
      subscribers = settled number (with_subscriber number old.subscribers (record port { stands = false }));
      publishers = left_all port.connections.values old.publishers;
      subscriber_list = left port.place old.subscriber_list;
    })

-- What closing the subscriber with this number answers and changes, if it exists.
abbrev pub LeavesAt : {T U : Type 0} → ℕ → Option SubscriberPort → ServicePorts T U → Bool → ServicePorts T U → Type 0
LeavesAt number None old answer new = (answer ≡ false) × (new ≡ old)
LeavesAt number (Some port) old answer new = LeavesPortIf port.stands number port old answer new
