-- A subscriber is created.
use Rattle.std.specs.Prelude.{ℕ, ◌+◌, [], replicate, None, true}
use Rattle.std.specs.List.{range_with_len}
use Rattle.iox_domain_values.specs.declared.port_owner.PortIdentity.{PortIdentity}
use Rattle.iox_domain_ports.specs.Keys.{no_keys}
use Rattle.iox_domain_ports.specs.Ties.{no_ties}
use Rattle.iox_domain_ports.specs.declared.subscriber_port.SubscriberPort.{SubscriberPort}

-- A new subscriber without connections and samples, with capacity for `most_connections` connections of open publishers and
-- `most_expired` expired ones.
abbrev pub new_subscriber : PortIdentity → ℕ → ℕ → ℕ → SubscriberPort
new_subscriber identity buffer_size most_connections most_expired = record {
  service = identity.service;
  number = identity.number;
  owner = identity.owner;
  place = identity.place;
  stands = true;
  buffer_size = buffer_size;
  held = 0;
  seen = 0;
  again = true;
  places = no_ties most_connections;
  connections = record {
    values = replicate (most_connections + most_expired) None;
    free
        = range_with_len 0 (most_connections + most_expired);
  };
  expired = no_keys most_expired (most_connections + most_expired);
}
