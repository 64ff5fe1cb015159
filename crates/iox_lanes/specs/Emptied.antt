-- A domain whose publishers have forgotten their messages.
use Rattle.std.specs.Prelude.{ℕ, zero, suc, ◌≡◌, ◌==◌, Bool, true, false, List, [], length, map, slice_get, Option, None, Some, option_map}
use Rattle.std.specs.List.{list_any}
use Rattle.iox_domain_ports.specs.MessagesSending.{with_uses}
use Rattle.iox_domain_ports.specs.DomainSlots.Uses.{emptied}
use Rattle.iox_domain_ports.specs.Publishers.{changed, port_of}
use Rattle.iox_domain_ports.specs.declared.publisher_port.PublisherPort.{PublisherPort}
use Rattle.iox_domain.specs.declared.domain.Domain.{Domain}
use Rattle.iox_lanes_threads.specs.Ports.{BoardPublisher}

-- The publisher without its messages: its mailboxes and its history are empty; all else is as it was.
abbrev pub without_messages : {T U : Type 0} → PublisherPort T U → PublisherPort T U
without_messages port = record port {
  sender = with_uses (record port.sender.uses { history = []; connections = map emptied port.sender.uses.connections }) port.sender;
}

-- Whether the number is one of these numbers.
abbrev pub is_among : ℕ → List ℕ → Bool
is_among number numbers = list_any (λ other. number == other) numbers

-- The publisher, if there is one: without its messages for `true`, as it was for `false`.
abbrev pub emptied_if : {T U : Type 0} → Bool → Option (PublisherPort T U) → Option (PublisherPort T U)
emptied_if true port = option_map without_messages port
emptied_if false port = port

-- The publishers with these numbers have no messages; each other publisher is as it was.
abbrev pub AreWithout : {T U : Type 0} → List ℕ → List (ℕ × PublisherPort T U) → List (ℕ × PublisherPort T U) → Type 0
AreWithout numbers old new = (number : ℕ) → port_of number new ≡ emptied_if (is_among number numbers) (port_of number old)

-- The publisher with this last sequence number, so its next message gets the number after it.
abbrev pub with_last : {T U : Type 0} → Option ℕ → PublisherPort T U → PublisherPort T U
with_last last port = record port { last_sequence = last }

-- The publishers after the one with this number, if there is a number, got this last sequence number.
abbrev pub gone_on_at : {T U : Type 0} → Option ℕ → Option ℕ → List (ℕ × PublisherPort T U) → List (ℕ × PublisherPort T U)
gone_on_at None last ports = ports
gone_on_at (Some number) last ports = changed number (with_last last) ports

-- The publishers after the one of the ended port, if there is a port, got the port's last sequence number. `numbers` are the numbers of the
-- publishers, by place of their ports.
abbrev pub gone_on_by : {T U : Type 0} → List ℕ → Option BoardPublisher → List (ℕ × PublisherPort T U) → List (ℕ × PublisherPort T U)
gone_on_by numbers None ports = ports
gone_on_by numbers (Some port) ports = gone_on_at (slice_get numbers port.place) port.own.lane.last ports

-- The publishers after those of the first `count` ended ports got their ports' last sequence numbers.
abbrev pub gone_on : {T U : Type 0} → List ℕ → List BoardPublisher → List (ℕ × PublisherPort T U) → ℕ → List (ℕ × PublisherPort T U)
gone_on numbers ended ports zero = ports
gone_on numbers ended ports (suc count) = gone_on_by numbers (slice_get ended count) (gone_on numbers ended ports count)

-- The publishers with these numbers have no messages, and have the last sequence numbers of their ports in threads. All else of the domain
-- is as it was.
pub record IsEnded {T U B D : Type 0} (numbers : List ℕ) (ended : List BoardPublisher) (old new : Domain T U B D) : Type 0 where
  pub rest : new ≡ record old { state = record old.state { ports = record old.state.ports { publishers = new.state.ports.publishers } } }
  pub publishers : AreWithout numbers (gone_on numbers ended old.state.ports.publishers (length ended)) new.state.ports.publishers
