-- The sequence numbers that are too large for lanes.
use Rattle.std.specs.Prelude.{ℕ, ◌^◌, Bool, false, not, nat_lt, Option, None, Some}
use Rattle.std.specs.List.{list_any}
use Rattle.iox_domain.specs.declared.ports.service_ports.ServicePorts.{ServicePorts}

-- Whether a publisher's last sequence number is too large: from 2^63 on, the numbers might not suffice for as many steps as lanes may make.
abbrev pub is_too_large : Option ℕ → Bool
is_too_large None = false
is_too_large (Some last) = not (nat_lt last (2 ^ 63))

-- Whether the last sequence number of some publisher is too large for lanes.
abbrev pub has_too_large : {T U : Type 0} → ServicePorts T U → Bool
has_too_large ports = list_any (λ entry. is_too_large entry.1.last_sequence) ports.publishers
