-- The phase of a pattern and name, and how actions of nodes change it.
use Rattle.std.specs.Prelude.{ℕ, ◌+◌, ◌-◌, Bool, true, false, ◌&&◌, not, ◌==◌, nat_lt, nat_le, List, [], ◌∷◌, length, if◌then◌else◌}
use Rattle.std.specs.List.{list_any}
use Rattle.iox_machine.specs.Agreement.{Agreement, are_within_limits}
use Rattle.iox_machine.specs.Asked.{settings_of}
use Rattle.iox_command.specs.NegotiateBase.DescribeBase.declared.message_type.MessageTypeDetails.{MessageTypeDetails}
use Rattle.iox_command.specs.NegotiateBase.DescribeBase.declared.pattern.MessagingPattern.{MessagingPattern}
use Rattle.iox_command.specs.NegotiateBase.DescribeBase.declared.pattern.MessagingPattern.TheVariants as pattern
use Rattle.iox_command.specs.NegotiateBase.DescribeSettings.Agreement.{max_nodes_of}
use Rattle.iox_command.specs.NegotiateBase.DescribeSettings.declared.static_config.Settings.{Settings}
use Rattle.iox_command.specs.NegotiateBase.DescribeSettings.declared.static_config.Settings.TheVariants as settings
use Rattle.iox_command.specs.Patterns.{pattern_of}
use Rattle.iox_command.specs.declared.service.ServiceOptions.{ServiceOptions}
use Rattle.iox_command.specs.declared.step.ForeignStep.{ForeignStep}
use Rattle.iox_command.specs.declared.step.ForeignStep.TheVariants as step

-- A node: one of the hub, or one of another process.
pub data Node : Type 0 where
  Own : ℕ → Node
  Foreign : ℕ → Node

-- The phase of a pattern and name: absent; being made by a node; published, with the nodes that are in it, each with its number of
-- factories; or emptied by the node that left last. The first number is that of the lifetime; an absent phase has that of the last
-- lifetime, or 0.
pub data Phase : Type 0 where
  Absent : ℕ → Phase
  BeingMade : ℕ → Node → Phase
  Published : ℕ → Agreement → List (Node × ℕ) → Phase
  Emptied : ℕ → Agreement → Node → Phase

-- Whether two patterns are the same.
abbrev pub same_pattern : MessagingPattern → MessagingPattern → Bool
same_pattern pattern.RequestResponse pattern.RequestResponse = true
same_pattern pattern.PublishSubscribe pattern.PublishSubscribe = true
same_pattern pattern.Event pattern.Event = true
same_pattern one other = false

-- Whether two nodes are the same.
abbrev pub same_node : Node → Node → Bool
same_node (Own one) (Own other) = one == other
same_node (Foreign one) (Foreign other) = one == other
same_node one other = false

-- Whether this node is in the service.
abbrev pub is_in : Node → List (Node × ℕ) → Bool
is_in node nodes = list_any (λ entry. same_node entry.0 node) nodes

-- The nodes of a service once this node has one factory more.
abbrev pub entered : Node → List (Node × ℕ) → List (Node × ℕ)
entered node [] = (node, 1) ∷ []
entered node (entry ∷ more) = if same_node entry.0 node then (node, entry.1 + 1) ∷ more else entry ∷ entered node more

-- The nodes of a service once this node has one factory fewer; with its last factory the node leaves.
abbrev pub left : Node → List (Node × ℕ) → List (Node × ℕ)
left node [] = []
left node (entry ∷ more) =
    if same_node entry.0 node then (if nat_le entry.1 1 then more else (node, entry.1 - 1) ∷ more) else entry ∷ left node more

-- The phase once a node leaves with one factory; if no node is in the service then, it was emptied by this node.
abbrev pub left_by : Node → Phase → Phase
left_by node (Published life agreed nodes) =
    if is_in node nodes then elim (left node nodes) [
      | [] ↦ Emptied life agreed node
      | entry ∷ more ↦ Published life agreed (entry ∷ more)
    ] else Published life agreed nodes
left_by node phase = phase

-- The phase once a node removes the service that it emptied; a phase that another node emptied stays.
abbrev pub removed_by : Node → Phase → Phase
removed_by node (Emptied life agreed by) = if same_node by node then Absent life else Emptied life agreed by
removed_by node phase = phase

-- Whether the settings say that messages have sequence numbers; the first version of descriptions can't say so.
abbrev pub has_numbers : Settings → Bool
has_numbers (settings.PublishSubscribe c) = c.sequence_numbers
has_numbers other = false

module _ (types : MessageTypeDetails) (pattern : MessagingPattern) where
  -- The phase after a node of another process published a service with these options, if the node has the lock, and the service is of this
  -- pattern and within the limits. Otherwise the phase stays.
  abbrev pub published_by : ℕ → Node → ℕ → ServiceOptions → Phase
  published_by life by node options =
      if same_node by (Foreign node) && (same_pattern (pattern_of options) pattern && are_within_limits (settings_of types options))
      then Published life (record { settings = settings_of types options; attributes = [] }) ((Foreign node, 1) ∷ []) else BeingMade life by

  -- The phase after an action of another node: it locks an absent service, releases its lock or publishes, enters, leaves, or removes what
  -- it emptied. An action that doesn't fit changes nothing.
  abbrev pub acted : Phase → ForeignStep → Phase
  acted (Absent lives) (step.Lock node) = BeingMade (lives + 1) (Foreign node)
  acted (BeingMade life by) (step.GiveUp node) = if same_node by (Foreign node) then Absent life else BeingMade life by
  acted (BeingMade life by) (step.Publish node options) = published_by life by node options
  acted (BeingMade life by) (step.PublishV1 node options) =
      if has_numbers (settings_of types options) then BeingMade life by else published_by life by node options
  acted (Published life agreed nodes) (step.Register node) =
      if not (is_in (Foreign node) nodes) && nat_lt (length nodes) (max_nodes_of agreed.settings)
      then Published life agreed (entered (Foreign node) nodes) else Published life agreed nodes
  acted (Published life agreed nodes) (step.Leave node) = left_by (Foreign node) (Published life agreed nodes)
  acted (Emptied life agreed by) (step.Remove node) = removed_by (Foreign node) (Emptied life agreed by)
  acted phase other = phase
