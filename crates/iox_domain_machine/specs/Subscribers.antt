-- Which subscriber of the machine a subscriber of a domain represents.
use Rattle.std.specs.Prelude.{ℕ, ◌≡◌, true, map, option_map}
use Rattle.std.specs.Option.{option_map_or}
use Rattle.iox_domain.specs.DomainPorts.Places.{reached}
use Rattle.iox_domain.specs.DomainPorts.Subscribing.{attached_at}
use Rattle.iox_domain.specs.DomainPorts.declared.subscriber_port.SubscriberPort.{SubscriberPort}
use Rattle.iox_machine.specs.Service.{Subscriber}

-- The name of the publisher to which the connection with this key leads; 0 without a connection.
abbrev pub publisher_by : (ℕ → ℕ) → SubscriberPort → ℕ → ℕ
publisher_by name port key = option_map_or (λ attached. name attached.publisher) (attached_at key port) 0

-- A subscriber of a domain represents this one of the machine, with these names of publishers; at most `most_publishers` are
-- listed, and `most_expired` connections of closed publishers are kept. While the subscriber is open it has the same
-- connections.
pub record SubscriberStandsFor (name : ℕ → ℕ) (most_publishers most_expired : ℕ) (port : SubscriberPort) (subscriber : Subscriber)
    : Type 0 where
  pub factory : subscriber.factory ≡ port.owner.number
  pub stands : subscriber.stands ≡ port.stands
  pub buffer_size : subscriber.buffer_size ≡ port.buffer_size
  pub seen : subscriber.seen ≡ port.seen
  pub again : subscriber.again ≡ port.again
  pub connected : port.stands ≡ true
      → subscriber.connected ≡ map (option_map (publisher_by name port)) (reached most_publishers port.places.items)
  pub expired : port.stands ≡ true → subscriber.expired ≡ map (publisher_by name port) port.expired.items
  pub room : port.expired.room ≡ most_expired
