-- Loans and samples that exist, and closed ports that still exist.
use Rattle.std.specs.Prelude.{ℕ, ◌||◌, Bool, true, false, not, nat_lt, List, length, get_or, Option, None, Some}
use Rattle.std.specs.List.{list_any}
use Rattle.iox_domain.specs.DomainSlots.Uses.{Connection}
use Rattle.iox_domain.specs.DomainSlots.declared.stage.Stage.{Stage}
use Rattle.iox_domain.specs.DomainSlots.declared.stage.Stage.TheVariants as stage
use Rattle.iox_domain.specs.DomainPorts.Publishers.{stands_in}
use Rattle.iox_domain.specs.DomainPorts.declared.attached.Attached.{Attached}
use Rattle.iox_domain.specs.DomainPorts.declared.publisher_entry.PublisherEntry.{PublisherEntry}
use Rattle.iox_domain.specs.DomainPorts.declared.subscriber_port.SubscriberPort.{SubscriberPort}
use Rattle.iox_domain.specs.DomainPorts.declared.publisher_port.PublisherPort.{PublisherPort}
use Rattle.iox_domain.specs.DomainPorts.declared.subscriber_entry.SubscriberEntry.{SubscriberEntry}
use Rattle.iox_domain.specs.Rolls.{RollState}
use Rattle.iox_domain.specs.declared.ports.service_ports.ServicePorts.{ServicePorts}
use Rattle.iox_lanes_opening.specs.Listed.{is_member}

-- Whether a connection ended and still exists.
abbrev pub has_ended : Stage → Bool
has_ended stage.Vacant = false
has_ended stage.Live = false
has_ended stage.Ended = true

-- Whether a connection ended and still exists, or a message of it is borrowed.
abbrev pub connection_lingers : {X : Type 0} → Connection X → Bool
connection_lingers connection = has_ended connection.stage || nat_lt 0 (length connection.borrowed)

-- Whether a publisher has a loan, or one of its connections ended or has a borrowed message.
abbrev pub has_out : {T U : Type 0} → PublisherPort T U → Bool
has_out port = nat_lt 0 (length port.sender.uses.loans) || list_any connection_lingers port.sender.uses.connections

-- Whether the publisher with this number is listed at its place.
abbrev pub is_listed_publisher : {T U : Type 0} → RollState PublisherEntry → ℕ → PublisherPort T U → Bool
is_listed_publisher list number port = is_member (λ entry. entry.publisher) number (get_or list.places port.place None)

-- Whether a publisher is closed or isn't listed at its place, has a loan, or has a connection that ended or has a borrowed message.
abbrev pub publisher_lingers : {T U : Type 0} → RollState PublisherEntry → ℕ × PublisherPort T U → Bool
publisher_lingers list entry = not entry.1.stands || (not (is_listed_publisher list entry.0 entry.1) || has_out entry.1)

-- Whether this connection of a subscriber comes from a closed publisher.
abbrev pub leads_nowhere : {T U : Type 0} → List (ℕ × PublisherPort T U) → Option Attached → Bool
leads_nowhere publishers None = false
leads_nowhere publishers (Some attached) = not (stands_in attached.publisher publishers)

-- Whether a subscriber holds a sample, or a connection of it expired or comes from a closed publisher.
abbrev pub has_left_over : {T U : Type 0} → List (ℕ × PublisherPort T U) → SubscriberPort → Bool
has_left_over publishers port = nat_lt 0 port.held
    || (nat_lt 0 (length port.expired.items) || list_any (leads_nowhere publishers) port.connections.values)

-- Whether the subscriber with this number is listed at its place.
abbrev pub is_listed_subscriber : RollState SubscriberEntry → ℕ → SubscriberPort → Bool
is_listed_subscriber list number port = is_member (λ entry. entry.subscriber) number (get_or list.places port.place None)

-- Whether a subscriber is closed or isn't listed at its place, holds a sample, or has a connection that expired or comes from a closed
-- publisher.
abbrev pub subscriber_lingers : {T U : Type 0} → RollState SubscriberEntry → List (ℕ × PublisherPort T U) → ℕ × SubscriberPort → Bool
subscriber_lingers list publishers entry = not entry.1.stands
    || (not (is_listed_subscriber list entry.0 entry.1) || has_left_over publishers entry.1)

-- Whether a loan or a sample exists, a connection of a closed publisher still exists, expired or at its place, or a closed port still
-- exists.
abbrev pub is_lingering : {T U : Type 0} → ServicePorts T U → Bool
is_lingering ports = list_any (publisher_lingers ports.publisher_list) ports.publishers
    || list_any (subscriber_lingers ports.subscriber_list ports.publishers) ports.subscribers
