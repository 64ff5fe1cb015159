-- The exact sizes of the lanes of a domain's ports.
use Rattle.std.specs.Prelude.{ℕ, zero, suc, max, List, length, slice_index, Option, None, Some}
use Rattle.iox_domain.specs.DomainPorts.Publishers.{port_of}
use Rattle.iox_domain.specs.DomainPorts.declared.publisher_port.PublisherPort.{PublisherPort}
use Rattle.iox_domain.specs.declared.ports.service_ports.ServicePorts.{ServicePorts}
use Rattle.iox_lanes_machine.specs.declared.sizes.LaneSizes.{LaneSizes}
use Rattle.iox_lanes.specs.Built.{slots_if}
use Rattle.iox_lanes.specs.Holding.{kind_of}
use Rattle.iox_lanes.specs.Sized.{most_waiting}

-- The largest of the values of `f` for the first `count` numbers; 0 for none.
abbrev pub largest : (ℕ → ℕ) → ℕ → ℕ
largest f zero = 0
largest f (suc count) = max (f count) (largest f count)

-- The publisher's loan limit, if there is a publisher; otherwise 0.
abbrev pub loans_if : {T U : Type 0} → Option (PublisherPort T U) → ℕ
loans_if None = 0
loans_if (Some port) = port.sender.uses.most_loans

-- The largest loan limit of the publishers with these numbers.
abbrev pub most_loans_of : {T U : Type 0} → List (ℕ × PublisherPort T U) → List ℕ → ℕ
most_loans_of ports numbers = largest (λ place. loans_if (port_of (slice_index numbers place) ports)) (length numbers)

-- The most slots that any of the publishers with these numbers has.
abbrev pub most_slots_of : {T U : Type 0} → List (ℕ × PublisherPort T U) → List ℕ → ℕ
most_slots_of ports numbers = largest (λ place. slots_if (port_of (slice_index numbers place) ports)) (length numbers)

-- The sizes of the lanes for the publishers with these numbers and this many subscribers. The kind of ring, buffer size, borrow limit and
-- history size are the agreed ones. The loan limit and the number of slots are the largest that one of these publishers has. Payloads and
-- user headers have these numbers of words.
abbrev pub sizes_for : {T U : Type 0} → ℕ → ℕ → ServicePorts T U → List ℕ → ℕ → LaneSizes
sizes_for payload_count header_count ports publishers subscribers = record {
  publishers = length publishers;
  subscribers = subscribers;
  kind = kind_of ports.sizes.enable_safe_overflow;
  buffer = most_waiting ports.sizes;
  most_borrowed = ports.sizes.subscriber_max_borrowed_samples;
  history = ports.sizes.history_size;
  most_loans = most_loans_of ports.publishers publishers;
  slots = most_slots_of ports.publishers publishers;
  user_header_words = header_count;
  payload_words = payload_count;
}
