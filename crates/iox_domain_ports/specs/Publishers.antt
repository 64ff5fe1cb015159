-- The publishers of a service by their numbers.
use Rattle.std.specs.Prelude.{ℕ, ◌≡◌, min, Bool, false, List, Option, None, Some, Result, Ok, Err, if◌then◌else◌}
use Rattle.std.specs.Ordering.{nat_cmp}
use Rattle.std.specs.BTreeMap.{insert_entry, is_at}
use Rattle.std.specs.Map.{lookup, set_value, remove_entry}
use Rattle.std.specs.declared.alloc.AllocError.{AllocError}
use Rattle.iox_domain_slots.specs.Uses.{Connection, nobody}
use Rattle.iox_domain_ports.specs.Messages.{Message}
use Rattle.iox_domain_ports.specs.Ports.{connection_of, connection_to, ended_at, Attaches}
use Rattle.iox_domain_ports.specs.declared.publisher_port.PublisherPort.{PublisherPort}
use Rattle.iox_domain_ports.specs.Reading.{is_over, given_back_at}

-- The publisher with this number, if it exists.
abbrev pub port_of : {T U : Type 0} → ℕ → List (ℕ × PublisherPort T U) → Option (PublisherPort T U)
port_of number ports = lookup (is_at (nat_cmp number)) ports

-- The publishers with `port` in place of the one with this number.
abbrev pub with_port : {T U : Type 0} → ℕ → List (ℕ × PublisherPort T U) → PublisherPort T U → List (ℕ × PublisherPort T U)
with_port number ports port = set_value (is_at (nat_cmp number)) ports port

-- The publishers after `port` was added under this number.
abbrev pub added : {T U : Type 0} → ℕ → PublisherPort T U → List (ℕ × PublisherPort T U) → List (ℕ × PublisherPort T U)
added number port ports = insert_entry nat_cmp ports number port

-- The publishers after the one with this number was removed.
abbrev pub removed : {T U : Type 0} → ℕ → List (ℕ × PublisherPort T U) → List (ℕ × PublisherPort T U)
removed number ports = remove_entry (is_at (nat_cmp number)) ports

-- The connection at this index of the publisher, or `nobody` if there is no publisher.
abbrev pub connection_at_port : {T U : Type 0} → ℕ → Option (PublisherPort T U) → Connection (Message T U)
connection_at_port index None = nobody
connection_at_port index (Some port) = connection_of index port

-- The connection at this index of the publisher with this number, or `nobody` if there is none.
abbrev pub connection_in : {T U : Type 0} → ℕ → ℕ → List (ℕ × PublisherPort T U) → Connection (Message T U)
connection_in number index ports = connection_at_port index (port_of number ports)

-- The maximum number of messages borrowed from each connection of the publisher; 0 if there is no publisher.
abbrev pub most_borrowed_at_port : {T U : Type 0} → Option (PublisherPort T U) → ℕ
most_borrowed_at_port None = 0
most_borrowed_at_port (Some port) = port.sender.uses.most_borrowed

-- The maximum number of messages borrowed from each connection of the publisher with this number; 0 if there is none.
abbrev pub most_borrowed_in : {T U : Type 0} → ℕ → List (ℕ × PublisherPort T U) → ℕ
most_borrowed_in number ports = most_borrowed_at_port (port_of number ports)

-- Whether the publisher exists and is open.
abbrev pub port_stands : {T U : Type 0} → Option (PublisherPort T U) → Bool
port_stands None = false
port_stands (Some port) = port.stands

-- Whether the publisher with this number exists and is open.
abbrev pub stands_in : {T U : Type 0} → ℕ → List (ℕ × PublisherPort T U) → Bool
stands_in number ports = port_stands (port_of number ports)

-- The publishers after this step of the publisher with this number; unchanged if there is none.
abbrev pub changed_at_port : {T U : Type 0} → ℕ → (PublisherPort T U → PublisherPort T U) → Option (PublisherPort T U)
    → List (ℕ × PublisherPort T U) → List (ℕ × PublisherPort T U)
changed_at_port number step None ports = ports
changed_at_port number step (Some port) ports = with_port number ports (step port)

-- The publishers after this step of the publisher with this number; unchanged if there is none.
abbrev pub changed : {T U : Type 0} → ℕ → (PublisherPort T U → PublisherPort T U) → List (ℕ × PublisherPort T U)
    → List (ℕ × PublisherPort T U)
changed number step ports = changed_at_port number step (port_of number ports) ports

-- The publisher after the connection at this index ended, if the publisher is closed; an open publisher ends its connections
-- itself.
abbrev pub ended_if_left : {T U : Type 0} → ℕ → PublisherPort T U → PublisherPort T U
ended_if_left index port = if port.stands then port else ended_at index port

-- Whether the publisher exists and is over.
abbrev pub is_over_port : {T U : Type 0} → Option (PublisherPort T U) → Bool
is_over_port None = false
is_over_port (Some port) = is_over port

-- Whether the publisher with this number exists and is over.
abbrev pub is_over_in : {T U : Type 0} → ℕ → List (ℕ × PublisherPort T U) → Bool
is_over_in number ports = is_over_port (port_of number ports)

-- The publishers after the one with this number was removed, if it is over.
abbrev pub settled : {T U : Type 0} → ℕ → List (ℕ × PublisherPort T U) → List (ℕ × PublisherPort T U)
settled number ports = if is_over_in number ports then removed number ports else ports

-- The publishers after the borrowed message at this place was released; a publisher that is over then is removed.
abbrev pub released : {T U : Type 0} → ℕ → ℕ → Option ℕ → List (ℕ × PublisherPort T U) → List (ℕ × PublisherPort T U)
released number index None ports = ports
released number index (Some at) ports = settled number (changed number (given_back_at index (Some at)) ports)

-- A subscriber attaches to its connection at the publisher. The call can fail only if the connection must be made; without a
-- publisher nothing happens.
abbrev pub AttachesAtPort : {T U : Type 0} → ℕ → ℕ → ℕ → Option (PublisherPort T U) → List (ℕ × PublisherPort T U)
    → Option (Result ℕ AllocError) → List (ℕ × PublisherPort T U) → Type 0
AttachesAtPort number subscriber limit None old answer new = (answer ≡ None) × (new ≡ old)
AttachesAtPort number subscriber limit (Some port) old None new = ⊥
AttachesAtPort number subscriber limit (Some port) old (Some (Err error)) new = (connection_to subscriber port ≡ None) × (new ≡ old)
AttachesAtPort {T} {U} number subscriber limit (Some port) old (Some (Ok index)) new =
    (after : PublisherPort T U) × Attaches subscriber (min limit port.sender.uses.most_waiting) port (Ok index) after
    × (new ≡ with_port number old after)

-- A subscriber attaches to its connection at the publisher with this number.
abbrev pub AttachesTo : {T U : Type 0} → ℕ → ℕ → ℕ → List (ℕ × PublisherPort T U) → Option (Result ℕ AllocError)
    → List (ℕ × PublisherPort T U) → Type 0
AttachesTo number subscriber limit old answer new = AttachesAtPort number subscriber limit (port_of number old) old answer new
