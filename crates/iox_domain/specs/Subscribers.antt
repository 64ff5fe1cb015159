-- The subscribers of a service by their numbers.
use Rattle.std.specs.Prelude.{ℕ, ◌==◌, ◌&&◌, Bool, false, not, List, Option, None, Some, if◌then◌else◌}
use Rattle.std.specs.Ordering.{nat_cmp}
use Rattle.std.specs.BTreeMap.{insert_entry, is_at}
use Rattle.std.specs.Map.{lookup, set_value, remove_entry}
use Rattle.iox_domain_ports.specs.declared.subscriber_port.SubscriberPort.{SubscriberPort}

-- The subscriber with this number, if it exists.
abbrev pub subscriber_of : ℕ → List (ℕ × SubscriberPort) → Option SubscriberPort
subscriber_of number ports = lookup (is_at (nat_cmp number)) ports

-- The subscribers with `port` in place of the one with this number.
abbrev pub with_subscriber : ℕ → List (ℕ × SubscriberPort) → SubscriberPort → List (ℕ × SubscriberPort)
with_subscriber number ports port = set_value (is_at (nat_cmp number)) ports port

-- The subscribers after `port` was added under this number.
abbrev pub subscriber_added : ℕ → SubscriberPort → List (ℕ × SubscriberPort) → List (ℕ × SubscriberPort)
subscriber_added number port ports = insert_entry nat_cmp ports number port

-- The subscribers after the one with this number was removed.
abbrev pub subscriber_removed : ℕ → List (ℕ × SubscriberPort) → List (ℕ × SubscriberPort)
subscriber_removed number ports = remove_entry (is_at (nat_cmp number)) ports

-- Whether the subscriber exists and is over: it is closed and holds no sample.
abbrev pub is_over : Option SubscriberPort → Bool
is_over None = false
is_over (Some port) = not port.stands && (port.held == 0)

-- Whether the subscriber with this number exists and is over.
abbrev pub is_over_in : ℕ → List (ℕ × SubscriberPort) → Bool
is_over_in number ports = is_over (subscriber_of number ports)

-- The subscribers after the one with this number was removed, if it is over.
abbrev pub settled : ℕ → List (ℕ × SubscriberPort) → List (ℕ × SubscriberPort)
settled number ports = if is_over_in number ports then subscriber_removed number ports else ports
