-- Which expired connection a subscriber searches for.
use Rattle.std.specs.Prelude.{ℕ, Bool, List}
use Rattle.iox_domain_ports.specs.declared.publisher_port.PublisherPort.{PublisherPort}
use Rattle.iox_domain_ports.specs.Subscribing.{is_idle}
use Rattle.iox_domain_ports.specs.Following.{is_unborrowed}
use Rattle.iox_domain_ports.specs.declared.expired.Sought.{Sought}
use Rattle.iox_domain_ports.specs.declared.expired.Sought.TheVariants as sought
use Rattle.iox_domain_ports.specs.declared.subscriber_port.SubscriberPort.{SubscriberPort}

-- Whether the connection with this key is of the sought kind: idle, or one of which nothing is borrowed.
abbrev pub is_sought : {T U : Type 0} → Sought → SubscriberPort → List (ℕ × PublisherPort T U) → ℕ → Bool
is_sought sought.Idle port ports key = is_idle port ports key
is_sought sought.Unborrowed port ports key = is_unborrowed port ports key
