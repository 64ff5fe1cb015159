-- Open factories, and what holds for each of them.
use Rattle.std.specs.Prelude.{◌≡◌, ◌≤◌, ◌+◌, ℕ, Bool, ◌&&◌, List, [], ◌∷◌, ◌⊎◌, nat_eq, if◌then◌else◌, unwrap_or}
use Rattle.iox_negotiate_table.specs.DescribeSettings.Agreement.{Agreement}
use Rattle.iox_negotiate_table.specs.Describe.Line.{Spells}
use Rattle.iox_negotiate_table.specs.Contents.{Contents}
use Rattle.iox_negotiate_table.specs.Nodes.{factories_of}
use Rattle.iox_negotiate_table.specs.Laws.{IsOpenIn}

-- An open factory: the number of its service, its node, and the agreement that it states.
pub record Factory : Type 0 where
  pub number : ℕ
  pub node : ℕ
  pub agreed : Agreement

-- Whether this is a factory of this node in the service with this number.
abbrev pub is_of : ℕ → ℕ → Factory → Bool
is_of number node factory = nat_eq factory.number number && nat_eq factory.node node

-- How many of these factories the node has in the service with this number.
abbrev pub times : ℕ → ℕ → List Factory → ℕ
times number node [] = 0
times number node (factory ∷ factories) = (if is_of number node factory then 1 else 0) + times number node factories

-- The factory is one of these.
abbrev pub IsAmong : Factory → List Factory → Type 0
IsAmong factory [] = ⊥
IsAmong factory (first ∷ factories) = (first ≡ factory) ⊎ IsAmong factory factories

-- The service of the factory exists: bytes that encode its agreement are published under its number, its segment exists, its node is
-- registered, no more nodes are registered than the maximum, and the node has at least as many registered factories as are open.
pub record Stands (all : List Factory) (table : Contents) (factory : Factory) : Type 0 where
  pub bytes : List ℕ
  pub spelled : Spells bytes factory.agreed
  pub is_open : IsOpenIn factory.agreed.service_hash factory.number factory.node bytes table
  pub counted : times factory.number factory.node all ≤ unwrap_or (factories_of is_open.nodes factory.node) 0

-- The services of all open factories exist.
abbrev pub AllStand : List Factory → Contents → Type 0
AllStand all table = (factory : Factory) → IsAmong factory all → Stands all table factory
