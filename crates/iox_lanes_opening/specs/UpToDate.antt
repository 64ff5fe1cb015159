-- Whether each port has followed the current list of the other side, and is connected to its ports.
use Rattle.std.specs.Prelude.{ℕ, ◌==◌, ◌&&◌, Bool, false, not, List, get_or, is_some, length, Option, None, Some}
use Rattle.iox_domain.specs.DomainPorts.Publishers.{port_of}
use Rattle.iox_domain.specs.DomainPorts.Subscribing.{attached_at}
use Rattle.iox_domain.specs.DomainPorts.declared.attached.Attached.{Attached}
use Rattle.iox_domain.specs.DomainPorts.declared.publisher_entry.PublisherEntry.{PublisherEntry}
use Rattle.iox_domain.specs.DomainPorts.declared.subscriber_port.SubscriberPort.{SubscriberPort}
use Rattle.iox_domain.specs.DomainPorts.Ports.{is_live}
use Rattle.iox_domain.specs.DomainPorts.declared.publisher_port.PublisherPort.{PublisherPort}
use Rattle.iox_domain.specs.DomainPorts.declared.reader.Reader.{Reader}
use Rattle.iox_domain.specs.DomainPorts.declared.subscriber_entry.SubscriberEntry.{SubscriberEntry}
use Rattle.iox_domain.specs.Rolls.{RollState, is_listed}
use Rattle.iox_domain.specs.Subscribers.{subscriber_of}
use Rattle.iox_domain.specs.declared.ports.service_ports.ServicePorts.{ServicePorts}
use Rattle.iox_lanes_opening.specs.Listed.{of_each_listed}
use Rattle.iox_lanes_opening.specs.Soundness.{any_below}

-- Whether this reader is the subscriber with this number, and is attached.
abbrev pub is_reader : ℕ → Option Reader → Bool
is_reader number None = false
is_reader number (Some reader) = (reader.subscriber == number) && reader.attached

-- Whether the connection with this index is live, and the subscriber with this number reads there.
abbrev pub is_read_by : {T U : Type 0} → ℕ → PublisherPort T U → ℕ → Bool
is_read_by number port index = is_live index port && is_reader number (get_or port.readers index None)

-- Whether this is the connection with this index of the publisher with this number.
abbrev pub is_of : ℕ → ℕ → Option Attached → Bool
is_of publisher index None = false
is_of publisher index (Some attached) = (attached.publisher == publisher) && (attached.index == index)

-- Whether a subscriber has, by this key, the connection with this index of the publisher with this number.
abbrev pub reads_from : ℕ → ℕ → SubscriberPort → Option ℕ → Bool
reads_from publisher index subscriber None = false
reads_from publisher index subscriber (Some key) = is_of publisher index (attached_at key subscriber)

-- Whether a publisher and a subscriber, each at its place of its list, share the connection to which the subscriber's place is tied: it is
-- live, and the subscriber reads there by the key that it has for the publisher's place.
abbrev pub shares : {T U : Type 0} → ℕ → ℕ → PublisherPort T U → ℕ → SubscriberPort → Option ℕ → Bool
shares place number port reader subscriber None = false
shares place number port reader subscriber (Some index) = is_read_by reader port index
    && reads_from number index subscriber (get_or subscriber.places.items place None)

-- Whether a publisher and a subscriber share the connection to which the publisher has tied the subscriber's place.
abbrev pub is_joined_to : {T U : Type 0} → ℕ → ℕ → PublisherPort T U → ℕ → ℕ → SubscriberPort → Bool
is_joined_to place number port other reader subscriber = shares place number port reader subscriber (get_or port.ties.items other None)

-- Whether there is a subscriber, and the publisher shares a connection with it.
abbrev pub is_joined_if : {T U : Type 0} → ℕ → ℕ → PublisherPort T U → ℕ → ℕ → Option SubscriberPort → Bool
is_joined_if place number port other reader None = false
is_joined_if place number port other reader (Some subscriber) = is_joined_to place number port other reader subscriber

-- Whether a publisher shares a connection with the subscriber that is listed at this place.
abbrev pub is_connected : {T U : Type 0} → ℕ → ℕ → PublisherPort T U → List (ℕ × SubscriberPort) → ℕ → SubscriberEntry → Bool
is_connected place number port subscribers other entry
    = is_joined_if place number port other entry.subscriber (subscriber_of entry.subscriber subscribers)

-- Whether a publisher has tied a place where nobody is listed to a connection.
abbrev pub is_stray : {T U : Type 0} → RollState SubscriberEntry → PublisherPort T U → ℕ → Bool
is_stray list port place = is_some (get_or port.ties.items place None) && not (is_listed place list)

-- Whether a publisher has tied any place where nobody is listed to a connection.
abbrev pub has_stray_tie : {T U : Type 0} → RollState SubscriberEntry → PublisherPort T U → Bool
has_stray_tie list port = any_below (is_stray list port) (length port.ties.items)

-- Whether there is a publisher, and it has followed the current list of subscribers, shares a connection with each of them, and has none
-- for a place where nobody is listed.
abbrev pub is_current_port : {T U : Type 0} → ServicePorts T U → ℕ → ℕ → Option (PublisherPort T U) → Bool
is_current_port ports place number None = false
is_current_port ports place number (Some port) =
    ((port.seen == ports.subscriber_list.changes)
    && of_each_listed (is_connected place number port ports.subscribers) 0 ports.subscriber_list.places)
    && not (has_stray_tie ports.subscriber_list port)

-- Whether the publisher that is listed at this place exists and is up to date.
abbrev pub is_current_publisher : {T U : Type 0} → ServicePorts T U → ℕ → PublisherEntry → Bool
is_current_publisher ports place entry = is_current_port ports place entry.publisher (port_of entry.publisher ports.publishers)

-- Whether there is a subscriber, and it has followed the current list of publishers, and need not follow it again.
abbrev pub is_current_reader : {T U : Type 0} → ServicePorts T U → Option SubscriberPort → Bool
is_current_reader ports None = false
is_current_reader ports (Some port) = (port.seen == ports.publisher_list.changes) && not port.again

-- Whether the listed subscriber exists and is up to date.
abbrev pub is_current_subscriber : {T U : Type 0} → ServicePorts T U → SubscriberEntry → Bool
is_current_subscriber ports entry = is_current_reader ports (subscriber_of entry.subscriber ports.subscribers)

-- Whether each listed port has followed the current list of the other side, and each listed publisher shares a connection with each listed
-- subscriber, and has none for a place where nobody is listed.
abbrev pub is_up_to_date : {T U : Type 0} → ServicePorts T U → Bool
is_up_to_date ports = of_each_listed (is_current_publisher ports) 0 ports.publisher_list.places
    && of_each_listed (λ place entry. is_current_subscriber ports entry) 0 ports.subscriber_list.places
