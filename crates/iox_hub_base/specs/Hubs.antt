-- A hub: its nodes, the table of its services, and the domains of the services that are open in it.
use Rattle.std.specs.Prelude.{ℕ, ◌≡◌, ◌+◌, ◌-◌, ◌^◌, ◌&&◌, Bool, false, List, [], Option, None, Some, min, nat_eq, nat_le}
use Rattle.std.specs.Option.{unwrap_or}
use Rattle.iox_delivery_factories.specs.Domain.Kept.{kept_under, kept}
use Rattle.iox_negotiate_table.specs.Contents.{empty_table}
use Rattle.iox_negotiate_table.specs.declared.entry.Entry.{Entry}
use Rattle.iox_negotiate_table.specs.declared.entry.Entry.TheVariants as entry
use Rattle.iox_hub_base.specs.declared.hub.HashState.{HashState}
use Rattle.iox_hub_base.specs.declared.hub.HashState.TheVariants as state
use Rattle.iox_hub_base.specs.declared.hub.Hub.{Hub}
use Rattle.iox_hub_base.specs.declared.hub.HubConfig.{HubConfig}

-- The hub has no nodes and no services, and has the id and the capacity for expired connections of its configuration.
pub record IsNewHub {T U B D : Type 0} (config : HubConfig) (hub : Hub T U B D) : Type 0 where
  pub expired_connection_buffer : hub.expired_connection_buffer ≡ config.expired_connection_buffer
  pub nodes : hub.nodes ≡ 0
  pub factories : hub.factories ≡ 0
  pub table : hub.table ≡ empty_table config.id
  pub factory_counts : hub.factory_counts ≡ []
  pub services : hub.services ≡ record { hub = config.id; domains = [] }

-- One more than the count, but at most 2^64 - 1.
abbrev pub one_more : ℕ → ℕ
one_more count = min (count + 1) (2 ^ 64 - 1)

-- Whether a node of this number was made, if `nodes` nodes were made so far.
abbrev pub is_node : ℕ → ℕ → Bool
is_node number nodes = nat_le 1 number && nat_le number nodes

-- Whether the hub made a node: its hub has the id of this one, and the hub made a node of its number.
abbrev pub has_made : {T U B D : Type 0} → ℕ → ℕ → Hub T U B D → Bool
has_made id number hub = nat_eq id hub.table.id && is_node number hub.nodes

-- Whether a builder is of a node that the hub made, if the builder is for this node and belongs to the hub of this id, or to no hub.
abbrev pub holds_builder : {T U B D : Type 0} → Option ℕ → ℕ → Hub T U B D → Bool
holds_builder None number hub = false
holds_builder (Some id) number hub = has_made id number hub

-- How many factories of a service are open.
abbrev pub factories_of : ℕ → List (ℕ × ℕ) → ℕ
factories_of number counts = unwrap_or (kept_under number counts) 0

-- The counts with one factory more of this service.
abbrev pub with_factory : ℕ → List (ℕ × ℕ) → List (ℕ × ℕ)
with_factory number counts = kept number (one_more (factories_of number counts)) counts

-- What lies under the hash of a service that has this entry in the table: nothing, a lock, or the description of an existing service.
abbrev pub hash_state : Option Entry → HashState
hash_state None = state.Absent
hash_state (Some (entry.Locked node number)) = state.Locked
hash_state (Some (entry.Described number bytes)) = state.Described
