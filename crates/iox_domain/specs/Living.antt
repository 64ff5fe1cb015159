-- How many ports, loans and samples are alive.
use Rattle.std.specs.Prelude.{ℕ, ◌+◌, List, sum_by, Option}
use Rattle.std.specs.Map.{values_of}
use Rattle.iox_domain_ports.specs.Living.{living_of_subscriber, counted, living_publishers}
use Rattle.iox_domain_ports.specs.declared.subscriber_port.SubscriberPort.{SubscriberPort}
use Rattle.iox_domain.specs.declared.ports.service_ports.ServicePorts.{ServicePorts}

-- How much of the owner's subscribers is alive; of all subscribers if no owner is named.
abbrev pub living_subscribers : Option ℕ → List (ℕ × SubscriberPort) → ℕ
living_subscribers owner ports = sum_by (λ port. counted owner port.owner.number (living_of_subscriber port)) (values_of ports)

-- How much of the owner is alive, or of all owners if none is named: open ports, loans and blocked sends, which count for the
-- owner of their publisher, and held samples, which count for the owner of the subscriber that received them.
abbrev pub living : {T U : Type 0} → Option ℕ → ServicePorts T U → ℕ
living owner ports = living_publishers owner ports.publishers + living_subscribers owner ports.subscribers
