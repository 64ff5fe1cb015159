-- How many factories of a service each node of a hub has.
use Rattle.std.specs.Prelude.{ℕ, zero, suc, ◌&&◌, ◌==◌, Bool, List, [], ◌∷◌, length, filter, bytes_eq}
use Rattle.iox_command.specs.NegotiateBase.DescribeBase.declared.pattern.MessagingPattern.{MessagingPattern}
use Rattle.iox_machine.specs.Phase.{Phase, Own, Published, same_pattern}
use Rattle.iox_machine.specs.State.{Factory}
use Rattle.iox_negotiate_machine.specs.Standing.{counts_of}

-- The number of factories of this node of the hub in the phase, once for each entry of the node.
abbrev pub seats_in : ℕ → Phase → List ℕ
seats_in node (Published life agreed nodes) = counts_of (Own node) nodes
seats_in node other = []

-- Whether a factory is one that this node has of the service of this pattern and name.
abbrev pub is_factory_of_node : MessagingPattern → List ℕ → ℕ → Factory → Bool
is_factory_of_node pattern name node factory =
    same_pattern factory.pattern pattern && (bytes_eq factory.name name && factory.node == node)

-- How many factories this node has of the service of this pattern and name.
abbrev pub factories_of_node : MessagingPattern → List ℕ → ℕ → List (ℕ × Factory) → ℕ
factories_of_node pattern name node factories = length (filter (λ entry. is_factory_of_node pattern name node entry.1) factories)

-- The entries of a node that has this many factories of a service: one entry with this number, or none if it has no factory.
abbrev pub seats_for : ℕ → List ℕ
seats_for zero = []
seats_for (suc more) = suc more ∷ []
