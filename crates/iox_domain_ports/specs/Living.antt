-- How much is alive: open ports, loans and samples.
use Rattle.std.specs.Prelude.{ℕ, ◌+◌, ◌==◌, List, length, is_some, sum_by, Option, None, Some, if◌then◌else◌}
use Rattle.std.specs.Map.{values_of}
use Rattle.iox_domain_ports.specs.declared.publisher_port.PublisherPort.{PublisherPort}
use Rattle.iox_domain_ports.specs.declared.subscriber_port.SubscriberPort.{SubscriberPort}

-- How much of a publisher is alive: itself while it is open, each of its loans, and the message of a send that isn't finished.
abbrev pub living_of_publisher : {T U : Type 0} → PublisherPort T U → ℕ
living_of_publisher port =
    (if port.stands then 1 else 0) + (length port.sender.uses.loans + (if is_some port.sender.uses.sending then 1 else 0))

-- How much of a subscriber is alive: itself while it is open, and each sample that is held.
abbrev pub living_of_subscriber : SubscriberPort → ℕ
living_of_subscriber port = (if port.stands then 1 else 0) + port.held

-- The count of a port of owner `number`, if that is the named owner or none is named; otherwise 0.
abbrev pub counted : Option ℕ → ℕ → ℕ → ℕ
counted None number count = count
counted (Some owner) number count = if owner == number then count else 0

-- How much of the publishers of the owner is alive; of all publishers if no owner is named.
abbrev pub living_publishers : {T U : Type 0} → Option ℕ → List (ℕ × PublisherPort T U) → ℕ
living_publishers owner ports = sum_by (λ port. counted owner port.owner.number (living_of_publisher port)) (values_of ports)
