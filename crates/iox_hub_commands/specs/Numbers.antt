-- How many numbers were given.
use Rattle.std.specs.Prelude.{ℕ, ◌≡◌, ◌+◌, []}
use Rattle.iox_hub_base.specs.declared.hub.HubConfig.{HubConfig}
use Rattle.iox_hub_commands.specs.declared.numbered_hub.NumberedHub.{NumberedHub}

-- A hub in which nothing was made: no node, no factory, no entry in its table of services, no domain, no port, no loan and no sample. The
-- first number of each kind will be 1, and there may be capacity for numbers of ports, loans and samples.
pub record IsNew {T U B D : Type 0} (config : HubConfig) (hub : NumberedHub T U B D) : Type 0 where
  pub expired_connection_buffer : hub.hub.expired_connection_buffer ≡ config.expired_connection_buffer
  pub nodes : hub.hub.nodes ≡ 0
  pub factories : hub.hub.factories ≡ 0
  pub table : hub.hub.table ≡ record { id = config.id; next = 1; entries = []; segments = [] }
  pub factory_counts : hub.hub.factory_counts ≡ []
  pub services : hub.hub.services ≡ record { hub = config.id; domains = [] }
  pub no_factory : hub.factories.made ≡ record { entries = []; next = 1; room = 0 }
  pub publishers : (hub.made.publishers.entries ≡ []) × (hub.made.publishers.next ≡ 1)
  pub subscribers : (hub.made.subscribers.entries ≡ []) × (hub.made.subscribers.next ≡ 1)
  pub loans : (hub.made.loans.entries ≡ []) × (hub.made.loans.next ≡ 1)
  pub samples : (hub.made.samples.entries ≡ []) × (hub.made.samples.next ≡ 1)

-- The sum of the next numbers of all kinds except nodes; each command adds at most one.
abbrev pub numbers_used : {T U B D : Type 0} → NumberedHub T U B D → ℕ
numbers_used hub = hub.factories.made.next +
    (hub.made.publishers.next + (hub.made.subscribers.next + (hub.made.loans.next + hub.made.samples.next)))
