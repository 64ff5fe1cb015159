-- Publishers and messages that don't have single values.
use Rattle.std.specs.Prelude.{◌==◌, ◌||◌, Bool, false, not, length, Option, None, Some}
use Rattle.std.specs.List.{list_any}
use Rattle.iox_domain.specs.DomainPorts.Messages.{Message}
use Rattle.iox_domain.specs.DomainSlots.Uses.{Connection}
use Rattle.iox_domain.specs.DomainPorts.declared.publisher_port.PublisherPort.{PublisherPort}
use Rattle.iox_domain.specs.declared.domain.Domain.{Domain}

-- Whether a message has another number of values than one.
abbrev pub is_slice : {T U : Type 0} → Message T U → Bool
is_slice message = not (length message.values == 1)

-- Whether there is a message, and it has another number of values than one.
abbrev pub is_slice_in : {T U : Type 0} → Option (Message T U) → Bool
is_slice_in None = false
is_slice_in (Some message) = is_slice message

-- Whether a message that waits at a connection has another number of values than one.
abbrev pub slice_waits : {T U : Type 0} → Connection (Message T U) → Bool
slice_waits connection = list_any is_slice connection.waiting

-- Whether a message of a publisher's history, or one that waits at a connection of it, has another number of values than one.
abbrev pub keeps_slice : {T U : Type 0} → PublisherPort T U → Bool
keeps_slice port = list_any is_slice port.sender.uses.history || list_any slice_waits port.sender.uses.connections

-- Whether a publisher has slices: an element of it has another number of values than one, its slots have capacity for another number, or a
-- message has another number.
abbrev pub deals_in_slices : {T U : Type 0} → PublisherPort T U → Bool
deals_in_slices port = not (port.unit == 1) || (not (port.sender.room == 1) || keeps_slice port)

-- Whether some publisher has slices. If no publisher has slices, the messages of a service of slices are single values, too.
abbrev pub has_slices : {T U B D : Type 0} → Domain T U B D → Bool
has_slices domain = list_any (λ entry. deals_in_slices entry.1) domain.state.ports.publishers
