-- A publisher is created and closed.
use Rattle.std.specs.Prelude.{zero, suc, ℕ, ◌+◌, true, false, [], length, get_or, Option, None, if◌then◌else◌}
use Rattle.iox_domain_values.specs.declared.data_segment.AllocationStrategy.{AllocationStrategy}
use Rattle.iox_domain_values.specs.declared.port_owner.PortIdentity.{PortIdentity}
use Rattle.iox_domain_ports.specs.declared.messages.sender_config.SenderConfig.{SenderConfig}
use Rattle.iox_domain_ports.specs.Places.{is_attached}
use Rattle.iox_domain_ports.specs.Ties.{no_ties}
use Rattle.iox_domain_ports.specs.Progress.{start}
use Rattle.iox_domain_ports.specs.Ports.{ended_at}
use Rattle.iox_domain_ports.specs.declared.publisher_port.PublisherPort.{PublisherPort}

-- A new publisher that isn't connected to any subscriber, with capacity for `most_subscribers` subscribers. Each of its elements has
-- `unit` values, and its first message gets the sequence number after `last_sequence`.
abbrev pub new_port : {T U : Type 0} → PortIdentity → ℕ → AllocationStrategy → ℕ → Option ℕ → SenderConfig → U → PublisherPort T U
new_port identity most_subscribers allocation unit last_sequence config user_header = record {
  service = identity.service;
  number = identity.number;
  owner = identity.owner;
  place = identity.place;
  allocation = allocation;
  unit = unit;
  stands = true;
  seen = 0;
  last_sequence = last_sequence;
  ties = no_ties most_subscribers;
  readers = [];
  progress = start;
  sender = record {
    room = config.room;
    segments = 1;
    most_segments = config.most_segments;
    user_header = user_header;
    uses = record {
      first = 0;
      size = config.slots;
      most_loans = config.most_loans;
      kept = config.history;
      most_waiting = config.most_waiting;
      most_borrowed = config.most_borrowed;
      overflows = config.overflows;
      sending = None;
      loans = [];
      history = [];
      connections = [];
    };
  };
}

-- The publisher after the connection at this index ended, unless a subscriber reads from it.
abbrev pub parted_at : {T U : Type 0} → ℕ → PublisherPort T U → PublisherPort T U
parted_at index port = if is_attached (get_or port.readers index None) then port else ended_at index port

-- The publisher after `count` connections from `index` on ended, except those from which a subscriber reads.
abbrev pub parted_from : {T U : Type 0} → ℕ → ℕ → PublisherPort T U → PublisherPort T U
parted_from zero index port = port
parted_from (suc count) index port = parted_from count (index + 1) (parted_at index port)

-- The publisher after it was closed: its connections from which no subscriber reads have ended.
abbrev pub departed : {T U : Type 0} → PublisherPort T U → PublisherPort T U
departed port = parted_from (length port.sender.uses.connections) 0 (record port { stands = false })
