-- How many more samples the subscribers of a service may receive.
use Rattle.std.specs.Prelude.{ℕ, ◌-◌, ◌*◌, List, length, min, sum_by, Option, None, Some, Result, Ok, Err, if◌then◌else◌}
use Rattle.std.specs.Map.{values_of}
use Rattle.iox_domain.specs.Calls.{PortCall, PublisherComes, SubscriberComes, Receives, Releases}
use Rattle.iox_domain.specs.declared.ports.service_ports.ServicePorts.{ServicePorts}
use Rattle.iox_domain.specs.DomainPorts.declared.publisher_port.PublisherPort.{PublisherPort}
use Rattle.iox_domain.specs.DomainPorts.Publishers.{connection_in}
use Rattle.iox_domain.specs.DomainPorts.declared.attached.Attached.{Attached}
use Rattle.iox_domain.specs.DomainPorts.declared.attached.Taken.{Taken}
use Rattle.iox_domain.specs.DomainPorts.declared.subscriber_port.SubscriberPort.{SubscriberPort}
use Rattle.iox_domain.specs.DomainValues.declared.port_error.ReceiveError.{ReceiveError}

-- How many messages of the connection are borrowed, counted up to `most`; 0 if there is no connection.
abbrev pub borrowed_at : {T U : Type 0} → ℕ → Option Attached → List (ℕ × PublisherPort T U) → ℕ
borrowed_at most None ports = 0
borrowed_at most (Some attached) ports = min (length (connection_in attached.publisher attached.index ports).borrowed) most

-- How many messages of all these connections are borrowed.
abbrev pub borrowed_of : {T U : Type 0} → ℕ → List (Option Attached) → List (ℕ × PublisherPort T U) → ℕ
borrowed_of most connections ports = sum_by (λ attached. borrowed_at most attached ports) connections

-- How many samples the subscriber may hold at once: `most` of each existing publisher; none once the subscriber is closed.
abbrev pub most_held : {T U : Type 0} → ℕ → SubscriberPort → List (ℕ × PublisherPort T U) → ℕ
most_held most port ports = if port.stands then length ports * most else 0

-- How many more samples the subscriber may receive, beyond those that it has borrowed.
abbrev pub spare_samples : {T U : Type 0} → ℕ → SubscriberPort → List (ℕ × PublisherPort T U) → ℕ
spare_samples most port ports = most_held most port ports - borrowed_of most port.connections.values ports

-- How many more samples all subscribers of the service may receive.
abbrev pub samples_left : {T U : Type 0} → ServicePorts T U → ℕ
samples_left ports = sum_by (λ port. spare_samples ports.sizes.subscriber_max_borrowed_samples port ports.publishers)
    (values_of ports.subscribers)

-- How many samples all subscribers of the service may hold at once.
abbrev pub samples_at_most : {T U : Type 0} → ServicePorts T U → ℕ
samples_at_most ports =
    sum_by (λ port. most_held ports.sizes.subscriber_max_borrowed_samples port ports.publishers) (values_of ports.subscribers)

-- How many samples a new subscriber may hold: the limit for each existing publisher.
abbrev pub held_by_one : {T U : Type 0} → ServicePorts T U → ℕ
held_by_one ports = length ports.publishers * ports.sizes.subscriber_max_borrowed_samples

-- How many samples of a new publisher may be held: the limit for each existing subscriber.
abbrev pub held_of_one : {T U : Type 0} → ServicePorts T U → ℕ
held_of_one ports = length ports.subscribers * ports.sizes.subscriber_max_borrowed_samples

-- How many samples the answer of a receive names.
abbrev pub received_in : Option (Result (Option Taken) ReceiveError) → ℕ
received_in None = 0
received_in (Some (Err error)) = 0
received_in (Some (Ok None)) = 0
received_in (Some (Ok (Some taken))) = 1

-- How many samples the call received.
abbrev pub received_by : {T U : Type 0} → PortCall T U → ℕ
received_by (Receives subscriber answer) = received_in answer
received_by call = 0

-- How many samples the call released.
abbrev pub released_by : {T U : Type 0} → PortCall T U → ℕ
released_by (Releases subscriber sample answer) = if answer then 1 else 0
released_by call = 0

-- `count` if a port was created, and otherwise 0.
abbrev pub if_came : {E : Type 0} → Result ℕ E → ℕ → ℕ
if_came (Ok number) count = count
if_came (Err error) count = 0

-- How many more samples may be held because of the port that the call created: by the new subscriber, or of the new publisher.
abbrev pub brought_by : {T U : Type 0} → PortCall T U → ServicePorts T U → ℕ
brought_by (PublisherComes config user_header answer) ports = if_came answer (held_of_one ports)
brought_by (SubscriberComes owner buffer_size answer) ports = if_came answer (held_by_one ports)
brought_by call ports = 0
