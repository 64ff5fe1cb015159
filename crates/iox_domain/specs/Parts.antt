-- The parts of a domain.
use Rattle.std.specs.Prelude.{◌==◌, ◌&&◌, nat_le, Bool}
use Rattle.std.specs.Bool.{beq}
use Rattle.iox_domain.specs.declared.domain.Domain.{Domain}
use Rattle.iox_domain.specs.declared.parts.DomainParts.{DomainParts}

-- The parts of this domain.
abbrev pub parts_of : {T U B D : Type 0} → Domain T U B D → DomainParts T U B D
parts_of domain = record {
  id = domain.id;
  agreed = domain.agreed;
  service = domain.state.ports.service;
  sizes = domain.state.ports.sizes;
  next_port = domain.state.ports.next_port;
  publisher_places = domain.state.ports.publisher_list;
  subscriber_places = domain.state.ports.subscriber_list;
  publishers = domain.state.ports.publishers;
  subscribers = domain.state.ports.subscribers;
  publisher_handlers = domain.state.publisher_handlers;
  subscriber_handlers = domain.state.subscriber_handlers;
  blank = domain.state.blank;
}

-- The domain of these parts.
abbrev pub domain_of : {T U B D : Type 0} → DomainParts T U B D → Domain T U B D
domain_of parts = record {
  id = parts.id;
  agreed = parts.agreed;
  state = record {
    ports = record {
      service = parts.service;
      sizes = parts.sizes;
      next_port = parts.next_port;
      publisher_list = parts.publisher_places;
      subscriber_list = parts.subscriber_places;
      publishers = parts.publishers;
      subscribers = parts.subscribers;
    };
    publisher_handlers = parts.publisher_handlers;
    subscriber_handlers = parts.subscriber_handlers;
    blank = parts.blank;
  };
}

-- Whether the parts belong to one service, and their sizes are those on which its nodes agreed.
abbrev pub agrees : {T U B D : Type 0} → DomainParts T U B D → Bool
agrees parts =
    (parts.service == parts.id.service) && (parts.sizes.max_publishers == parts.agreed.max_publishers)
    && (parts.sizes.max_subscribers == parts.agreed.max_subscribers)
    && (parts.sizes.subscriber_max_buffer_size == parts.agreed.subscriber_max_buffer_size)
    && (parts.sizes.subscriber_max_borrowed_samples == parts.agreed.subscriber_max_borrowed_samples)
    && (parts.sizes.history_size == parts.agreed.history_size)
    && beq parts.sizes.enable_safe_overflow parts.agreed.enable_safe_overflow
    && beq parts.sizes.sequence_numbers parts.agreed.sequence_numbers
    && nat_le parts.agreed.subscriber_max_borrowed_samples parts.sizes.expired_connections
