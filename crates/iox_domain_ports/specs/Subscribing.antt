-- What a subscriber sees of its connections, by their keys.
use Rattle.std.specs.Prelude.{ℕ, ◌==◌, ◌&&◌, Bool, List, length, map, get_or, nat_lt, Option, None, Some}
use Rattle.iox_container.specs.SlotTable.{value_at, released}
use Rattle.iox_domain_slots.specs.Uses.{Connection, nobody}
use Rattle.iox_domain_ports.specs.Messages.{Message}
use Rattle.iox_domain_ports.specs.declared.publisher_port.PublisherPort.{PublisherPort}
use Rattle.iox_domain_ports.specs.Reading.{taken_at}
use Rattle.iox_domain_ports.specs.Publishers.{connection_in, most_borrowed_in, changed, ended_if_left, settled}
use Rattle.iox_domain_ports.specs.declared.attached.Attached.{Attached}
use Rattle.iox_domain_ports.specs.declared.attached.Seen.{Seen}
use Rattle.iox_domain_ports.specs.declared.attached.Taken.{Taken}
use Rattle.iox_domain_ports.specs.declared.subscriber_port.SubscriberPort.{SubscriberPort}

-- The connection with this key, if the subscriber has one.
abbrev pub attached_at : ℕ → SubscriberPort → Option Attached
attached_at key port = value_at port.connections.values key

-- The state of the connection at its publisher, or `nobody` if there is no connection.
abbrev pub connection_by : {T U : Type 0} → Option Attached → List (ℕ × PublisherPort T U) → Connection (Message T U)
connection_by None ports = nobody
connection_by (Some attached) ports = connection_in attached.publisher attached.index ports

-- The maximum number of messages borrowed from the connection; 0 if there is no connection.
abbrev pub most_by : {T U : Type 0} → Option Attached → List (ℕ × PublisherPort T U) → ℕ
most_by None ports = 0
most_by (Some attached) ports = most_borrowed_in attached.publisher ports

-- What is counted of a connection: how many messages wait, how many are borrowed, and how many may be borrowed.
abbrev pub seen_of : {T U : Type 0} → Option Attached → List (ℕ × PublisherPort T U) → Seen
seen_of attached ports = record {
  waiting = length (connection_by attached ports).waiting;
  borrowed = length (connection_by attached ports).borrowed;
  most = most_by attached ports;
}

-- Whether a message waits in the connection with this key.
abbrev pub has_data : {T U : Type 0} → SubscriberPort → List (ℕ × PublisherPort T U) → ℕ → Bool
has_data port ports key = nat_lt 0 (length (connection_by (attached_at key port) ports).waiting)

-- Whether fewer messages are borrowed from the connection with this key than the limit allows.
abbrev pub is_below : {T U : Type 0} → SubscriberPort → List (ℕ × PublisherPort T U) → ℕ → Bool
is_below port ports key = nat_lt (length (connection_by (attached_at key port) ports).borrowed) (most_by (attached_at key port) ports)

-- Whether the connection with this key is below the limit of borrowed messages, and has data.
abbrev pub gives : {T U : Type 0} → SubscriberPort → List (ℕ × PublisherPort T U) → ℕ → Bool
gives port ports key = is_below port ports key && has_data port ports key

-- Whether nothing waits in the connection with this key, and nothing of it is borrowed.
abbrev pub is_idle : {T U : Type 0} → SubscriberPort → List (ℕ × PublisherPort T U) → ℕ → Bool
is_idle port ports key =
    (length (connection_by (attached_at key port) ports).waiting == 0)
    && (length (connection_by (attached_at key port) ports).borrowed == 0)

-- The subscriber after the connection, if there is one, was removed from the key.
abbrev pub without_key : ℕ → Option Attached → SubscriberPort → SubscriberPort
without_key key None port = port
without_key key (Some attached) port = record port { connections = released port.connections key }

-- The subscriber after the connection with this key was removed.
abbrev pub ended_key : ℕ → SubscriberPort → SubscriberPort
ended_key key port = without_key key (attached_at key port) port

-- The publishers after this connection ended, if its publisher is closed; a publisher that is over then is removed.
abbrev pub ended_ports : {T U : Type 0} → Option Attached → List (ℕ × PublisherPort T U) → List (ℕ × PublisherPort T U)
ended_ports None ports = ports
ended_ports (Some attached) ports = settled attached.publisher (changed attached.publisher (ended_if_left attached.index) ports)

-- What the subscriber with this number takes: the oldest waiting message of the connection.
abbrev pub taken_of : {T U : Type 0} → ℕ → Option Attached → List (ℕ × PublisherPort T U) → Option Taken
taken_of number None ports = None
taken_of number (Some attached) ports = Some (record {
  subscriber = number;
  publisher = attached.publisher;
  index = attached.index;
  slot = get_or (map (λ message. message.slot) (connection_in attached.publisher attached.index ports).waiting) 0 0;
})

-- The publishers after the oldest waiting message of the connection was taken.
abbrev pub taken_ports : {T U : Type 0} → Option Attached → List (ℕ × PublisherPort T U) → List (ℕ × PublisherPort T U)
taken_ports None ports = ports
taken_ports (Some attached) ports = changed attached.publisher (taken_at attached.index) ports
