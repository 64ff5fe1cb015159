-- Counts by owner of what is alive, kept while the ports of one kind change.
use Rattle.std.specs.Prelude.{ℕ, ◌+◌, ◌-◌, ◌<◌, ◌≤◌, ◌^◌, ◌≡◌, List, length, sum_by, min, Option, None, Some}
use Rattle.std.specs.BTreeMap.{is_at}
use Rattle.std.specs.List.{AllByRecursion}
use Rattle.std.specs.Map.{lookup, values_of}
use Rattle.std.specs.Ordering.{nat_cmp}
use Rattle.iox_domain_ports.specs.Living.{counted, living_of_publisher, living_of_subscriber}
use Rattle.iox_domain_ports.specs.Tallies.{count_under}
use Rattle.iox_domain_ports.specs.declared.census.Census.{Census}
use Rattle.iox_domain_ports.specs.declared.census.Share.{Share}
use Rattle.iox_domain_ports.specs.declared.publisher_port.PublisherPort.{PublisherPort}
use Rattle.iox_domain_ports.specs.declared.subscriber_port.SubscriberPort.{SubscriberPort}

-- How much of the share counts for `owner`; all of it if no owner is named.
abbrev pub amount : Option ℕ → Share → ℕ
amount owner share = counted owner share.owner share.count

-- The share of nobody: nothing.
abbrev pub no_share : Share
no_share = record { owner = 0; count = 0 }

-- The share of a port, or `no_share` if there is no port.
abbrev pub share_at : {P : Type 0} → (P → Share) → Option P → Share
share_at share None = no_share
share_at share (Some port) = share port

-- The share of a publisher: its owner, and how much of it is alive, at most 2^64 - 1.
abbrev pub publisher_share : {T U : Type 0} → PublisherPort T U → Share
publisher_share port = record { owner = port.owner.number; count = min (living_of_publisher port) (2 ^ 64 - 1) }

-- The share of a subscriber: its owner, and how much of it is alive, at most 2^64 - 1.
abbrev pub subscriber_share : SubscriberPort → Share
subscriber_share port = record { owner = port.owner.number; count = min (living_of_subscriber port) (2 ^ 64 - 1) }

-- The count of the owner, or the total if no owner is named.
abbrev pub tallied : Option ℕ → Census → ℕ
tallied None census = census.total
tallied (Some owner) census = count_under owner census.owners.counts

-- The sum of these ports' shares that count for `owner`; all of them if no owner is named.
abbrev pub shared : {P : Type 0} → (P → Share) → Option ℕ → List (ℕ × P) → ℕ
shared share owner ports = sum_by (λ port. amount owner (share port)) (values_of ports)

-- The counts are those of these ports, except that the port handed out last is counted by the share that was noted of it before. There
-- is room for as many owners as there are ports.
pub record IsCensusOf {P : Type 0} (share : P → Share) (census : Census) (ports : List (ℕ × P)) : Type 0 where
  pub counts : (owner : Option ℕ) →
      tallied owner census + amount owner (share_at share (lookup (is_at (nat_cmp census.lent)) ports))
      ≡ shared share owner ports + amount owner census.noted
  pub room : length ports ≤ census.owners.room

-- `before` and the shares of others are counted. There is room for the owners of the others, and for one more where `after` is some.
pub record HasRoomFor (before after : Share) (census : Census) : Type 0 where
  pub others : List Share
  pub counts : (owner : Option ℕ) → tallied owner census ≡ amount owner before + sum_by (amount owner) others
  pub small : AllByRecursion (λ share. share.count < 2 ^ 64) others
  pub few : length others ≤ census.owners.room
  pub room : 0 < after.count → length others < census.owners.room
  pub next : after.count < 2 ^ 64

-- After the change `after` is counted in place of `before`. The room and what is noted of the port handed out last are unchanged.
pub record Exchanges (before after : Share) (old new : Census) : Type 0 where
  pub counts : (owner : Option ℕ) → tallied owner new + amount owner before ≡ tallied owner old + amount owner after
  pub room : new.owners.room ≡ old.owners.room
  pub lent : new.lent ≡ old.lent
  pub noted : new.noted ≡ old.noted
