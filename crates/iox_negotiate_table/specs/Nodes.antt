-- The nodes of a service.
use Rattle.std.specs.Prelude.{ℕ, ◌+◌, ◌-◌, ◌≡◌, Bool, true, false, List, [], ◌∷◌, Option, None, Some, Result, Ok, Err, length, nat_eq}
use Rattle.std.specs.Prelude.{nat_lt, not, ◌&&◌, ◌^◌, if◌then◌else◌, ◌⊎◌}
use Rattle.std.specs.Ordering.{nat_cmp}
use Rattle.std.specs.BTreeMap.{insert_entry, is_at}
use Rattle.std.specs.BTreeSet.{insert_key}
use Rattle.std.specs.List.{list_any}
use Rattle.std.specs.Set.{remove_key}
use Rattle.std.specs.Map.{lookup, set_value, remove_entry}
use Rattle.std.specs.declared.alloc.AllocError.{AllocError}
use Rattle.iox_negotiate_base.specs.declared.answer.OpenSegmentAnswer.{OpenSegmentAnswer}
use Rattle.iox_negotiate_base.specs.declared.answer.OpenSegmentAnswer.TheVariants.{Registered, Full, Fault, OutOfMemory}

-- The table's own nodes, each with the number of its factories; the foreign nodes; and the maximum number of nodes.
pub record Nodes : Type 0 where
  pub own : List (ℕ × ℕ)
  pub foreign : List ℕ
  pub max_nodes : ℕ

-- No node is registered, and there may be `max_nodes`.
abbrev pub none_in : ℕ → Nodes
none_in max_nodes = record { own = []; foreign = []; max_nodes = max_nodes }

-- How many nodes are registered.
abbrev pub count_in : Nodes → ℕ
count_in nodes = length nodes.own + length nodes.foreign

-- How many factories an own node has, if it is registered.
abbrev pub factories_of : Nodes → ℕ → Option ℕ
factories_of nodes node = lookup (is_at (nat_cmp node)) nodes.own

-- The nodes after an own node is registered with its first factory.
abbrev pub with_node : ℕ → Nodes → Nodes
with_node node nodes = record nodes { own = insert_entry nat_cmp nodes.own node 1 }

-- One own node is registered, with one factory.
abbrev pub first_node : ℕ → ℕ → Nodes
first_node node max_nodes = with_node node (none_in max_nodes)

-- One foreign node is registered.
abbrev pub first_foreign : ℕ → ℕ → Nodes
first_foreign node max_nodes = record { own = []; foreign = node ∷ []; max_nodes = max_nodes }

-- The nodes after the number of factories of an own node changed.
abbrev pub with_factories : ℕ → ℕ → Nodes → Nodes
with_factories node count nodes = record nodes { own = set_value (is_at (nat_cmp node)) nodes.own count }

-- The nodes after an own node is removed.
abbrev pub without_node : ℕ → Nodes → Nodes
without_node node nodes = record nodes { own = remove_entry (is_at (nat_cmp node)) nodes.own }

-- The nodes after a node lost one of its factories; the last one removes the node.
abbrev pub less_one : Nodes → ℕ → Option ℕ → Nodes
less_one nodes node None = nodes
less_one nodes node (Some count) = if nat_lt 1 count then with_factories node (count - 1) nodes else without_node node nodes

-- The nodes after one factory of a node is removed.
abbrev pub left : ℕ → Nodes → Nodes
left node nodes = less_one nodes node (factories_of nodes node)

-- A registered node gets one more factory, unless it has 2^64 - 1.
abbrev pub EntersAgain : ℕ → Bool → ℕ → Nodes → OpenSegmentAnswer → Nodes → Type 0
EntersAgain count true node old answer new = (answer ≡ Fault) × (new ≡ old)
EntersAgain count false node old answer new = (answer ≡ Registered) × (new ≡ with_factories node (count + 1) old)

-- A node that isn't registered is registered, if fewer nodes are than the maximum and memory doesn't run out.
abbrev pub EntersFirst : Bool → ℕ → Nodes → OpenSegmentAnswer → Nodes → Type 0
EntersFirst true node old answer new = ((answer ≡ Registered) × (new ≡ with_node node old)) ⊎ ((answer ≡ OutOfMemory) × (new ≡ old))
EntersFirst false node old answer new = (answer ≡ Full) × (new ≡ old)

-- A registered node gets one more factory, and any other node is registered.
abbrev pub EntersWith : Option ℕ → ℕ → Nodes → OpenSegmentAnswer → Nodes → Type 0
EntersWith (Some count) node old answer new = EntersAgain count (nat_eq count (2 ^ 64 - 1)) node old answer new
EntersWith None node old answer new = EntersFirst (nat_lt (count_in old) old.max_nodes) node old answer new

-- An own node opens the service once more.
abbrev pub Enters : ℕ → Nodes → OpenSegmentAnswer → Nodes → Type 0
Enters node old answer new = EntersWith (factories_of old node) node old answer new

-- Whether a foreign node is registered.
abbrev pub has_foreign : ℕ → Nodes → Bool
has_foreign node nodes = list_any (is_at (nat_cmp node)) nodes.foreign

-- The nodes after a foreign node is registered.
abbrev pub with_foreign : ℕ → Nodes → Nodes
with_foreign node nodes = record nodes { foreign = insert_key nat_cmp nodes.foreign node }

-- The nodes after a foreign node is removed.
abbrev pub without_foreign : ℕ → Nodes → Nodes
without_foreign node nodes = record nodes { foreign = remove_key (is_at (nat_cmp node)) nodes.foreign }

-- If it is possible, a foreign node is registered, or memory runs out; else nothing changes.
abbrev pub RegistersIf : Bool → ℕ → Nodes → Result (Unit {0}) AllocError → Nodes → Type 0
RegistersIf true node old (Ok done) new = new ≡ with_foreign node old
RegistersIf true node old (Err lacking) new = new ≡ old
RegistersIf false node old (Ok done) new = new ≡ old
RegistersIf false node old (Err lacking) new = ⊥

-- A foreign node is registered, unless it is already or the maximum number of nodes is; if memory runs out, nothing changes.
abbrev pub Registers : ℕ → Nodes → Result (Unit {0}) AllocError → Nodes → Type 0
Registers node old result new = RegistersIf (not (has_foreign node old) && nat_lt (count_in old) old.max_nodes) node old result new
