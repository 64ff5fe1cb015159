-- States of the ports of a service that no calls leave.
use Rattle.std.specs.Prelude.{ℕ, zero, suc, ◌==◌, ◌&&◌, ◌||◌, Bool, false, is_some, not, nat_lt, List, length, slice_get, Option, None}
use Rattle.std.specs.Prelude.{Some}
use Rattle.std.specs.Bool.{beq}
use Rattle.std.specs.List.{list_any}
use Rattle.iox_domain.specs.DomainPorts.Messages.{Message}
use Rattle.iox_domain.specs.DomainPorts.Publishers.{port_of}
use Rattle.iox_domain.specs.DomainPorts.Subscribing.{attached_at}
use Rattle.iox_domain.specs.DomainPorts.declared.attached.Attached.{Attached}
use Rattle.iox_domain.specs.DomainPorts.declared.publisher_entry.PublisherEntry.{PublisherEntry}
use Rattle.iox_domain.specs.DomainPorts.declared.publisher_port.PublisherPort.{PublisherPort}
use Rattle.iox_domain.specs.DomainPorts.declared.subscriber_entry.SubscriberEntry.{SubscriberEntry}
use Rattle.iox_domain.specs.DomainPorts.declared.subscriber_port.SubscriberPort.{SubscriberPort}
use Rattle.iox_domain.specs.DomainSlots.Uses.{is_there, Connection}
use Rattle.iox_domain.specs.DomainValues.declared.service_sizes.ServiceSizes.{ServiceSizes}
use Rattle.iox_domain.specs.Subscribers.{subscriber_of}
use Rattle.iox_domain.specs.declared.ports.service_ports.ServicePorts.{ServicePorts}
use Rattle.iox_lanes_opening.specs.Listed.{of_each_listed}

-- Whether there is a publisher, and this is its place.
abbrev pub is_publisher_place : {T U : Type 0} → ℕ → Option (PublisherPort T U) → Bool
is_publisher_place place None = false
is_publisher_place place (Some port) = port.place == place

-- Whether the publisher that is listed at this place has this place.
abbrev pub is_publisher_placed : {T U : Type 0} → ServicePorts T U → ℕ → PublisherEntry → Bool
is_publisher_placed ports place entry = is_publisher_place place (port_of entry.publisher ports.publishers)

-- Whether there is a subscriber, and this is its place.
abbrev pub is_subscriber_place : ℕ → Option SubscriberPort → Bool
is_subscriber_place place None = false
is_subscriber_place place (Some port) = port.place == place

-- Whether the subscriber that is listed at this place has this place.
abbrev pub is_subscriber_placed : {T U : Type 0} → ServicePorts T U → ℕ → SubscriberEntry → Bool
is_subscriber_placed ports place entry = is_subscriber_place place (subscriber_of entry.subscriber ports.subscribers)

-- Whether each port is listed only at its own place.
abbrev pub are_placed : {T U : Type 0} → ServicePorts T U → Bool
are_placed ports = of_each_listed (is_publisher_placed ports) 0 ports.publisher_list.places
    && of_each_listed (is_subscriber_placed ports) 0 ports.subscriber_list.places

-- Whether the test holds for a number below `count`.
abbrev pub any_below : (ℕ → Bool) → ℕ → Bool
any_below test zero = false
any_below test (suc count) = any_below test count || test count

-- Whether there are two messages, and both are in one slot.
abbrev pub share_slot : {T U : Type 0} → Option (Message T U) → Option (Message T U) → Bool
share_slot None other = false
share_slot (Some one) None = false
share_slot (Some one) (Some other) = one.slot == other.slot

-- Whether the message at this place is in the slot of an earlier one.
abbrev pub stands_again : {T U : Type 0} → List (Message T U) → ℕ → Bool
stands_again messages place = any_below (λ other. share_slot (slice_get messages other) (slice_get messages place)) place

-- Whether two of these messages are in one slot.
abbrev pub has_twice : {T U : Type 0} → List (Message T U) → Bool
has_twice messages = any_below (stands_again messages) (length messages)

-- Whether a publisher's history has more messages than agreed, or two in one slot.
abbrev pub remembers_ill : {T U : Type 0} → ServiceSizes → PublisherPort T U → Bool
remembers_ill sizes port = nat_lt sizes.history_size (length port.sender.uses.history) || has_twice port.sender.uses.history

-- Whether a connection exists, and its maximum number of waiting messages is 0 or more than agreed, or more messages wait there than this
-- maximum, or two of them are in one slot.
abbrev pub waits_ill : {T U : Type 0} → ServiceSizes → Connection (Message T U) → Bool
waits_ill sizes connection = is_there connection
    && ((connection.limit == 0) || (nat_lt sizes.subscriber_max_buffer_size connection.limit
    || (nat_lt connection.limit (length connection.waiting) || has_twice connection.waiting)))

-- Whether a publisher has sequence numbers though the service doesn't, or the reverse.
abbrev pub is_misnumbered : {T U : Type 0} → ServiceSizes → PublisherPort T U → Bool
is_misnumbered sizes port = not (beq (is_some port.last_sequence) sizes.sequence_numbers)

-- Whether a publisher has slots of several segments, doesn't have what the service agreed on, or has messages that don't keep to the
-- agreement.
abbrev pub is_misfit : {T U : Type 0} → ServiceSizes → PublisherPort T U → Bool
is_misfit sizes port = is_misnumbered sizes port || (nat_lt 0 port.sender.uses.first || (not (port.sender.uses.kept == sizes.history_size)
    || (remembers_ill sizes port || list_any (waits_ill sizes) port.sender.uses.connections)))

-- Whether there are two connections, and both come from one publisher.
abbrev pub share_publisher : Option Attached → Option Attached → Bool
share_publisher None other = false
share_publisher (Some one) None = false
share_publisher (Some one) (Some other) = one.publisher == other.publisher

-- Whether the connection with this key comes from the publisher of an earlier one.
abbrev pub comes_again : SubscriberPort → ℕ → Bool
comes_again port key = any_below (λ other. share_publisher (attached_at other port) (attached_at key port)) key

-- Whether two connections of a subscriber come from one publisher.
abbrev pub attaches_twice : SubscriberPort → Bool
attaches_twice port = any_below (comes_again port) (length port.connections.values)

-- Whether a port is listed at another place than its own, a publisher doesn't have what the service agreed on or has messages that don't
-- keep to the agreement, or two connections of a subscriber come from one publisher. No calls leave such a state if no capacity grows and
-- at least one message may wait.
abbrev pub is_unsound : {T U : Type 0} → ServicePorts T U → Bool
is_unsound ports = not (are_placed ports) || (list_any (λ entry. is_misfit ports.sizes entry.1) ports.publishers
    || list_any (λ entry. attaches_twice entry.1) ports.subscribers)
