-- Which phases of the machine a table of services represents.
use Rattle.std.specs.Prelude.{ℕ, ◌≡◌, ◌<◌, ◌≤◌, false, List, [], ◌∷◌, ◌++◌, length, map, filter, Some, None}
use Rattle.std.specs.List.{IsAmong}
use Rattle.iox_command.specs.NegotiateBase.Describe.Line.{line}
use Rattle.iox_command.specs.NegotiateBase.Describe.Within.{IsWithinLimits}
use Rattle.iox_command.specs.NegotiateBase.DescribeBase.Hash.{service_hash_of}
use Rattle.iox_command.specs.NegotiateBase.DescribeBase.declared.pattern.MessagingPattern.{MessagingPattern}
use Rattle.iox_command.specs.NegotiateBase.DescribeSettings.Agreement.{Agreement as Description, agreement, max_nodes_of, pattern_of}
use Rattle.iox_command.specs.NegotiateBase.DescribeSettings.Versions.{HasAll}
use Rattle.iox_command.specs.NegotiateBase.DescribeSettings.declared.description.Version.{Version}
use Rattle.iox_machine.specs.Agreement.{Agreement}
use Rattle.iox_machine.specs.AgreementLaws.{life_of}
use Rattle.iox_machine.specs.Phase.{Node, Own, Foreign, Phase, Absent, BeingMade, Published, Emptied, same_node}
use Rattle.iox_machine.specs.State.{State}
use Rattle.iox_negotiate.specs.Histories.{IsReached}
use Rattle.iox_negotiate_table.specs.Contents.{Contents, entry_at, segment_at, is_published}
use Rattle.iox_negotiate_table.specs.Nodes.{Nodes, count_in}
use Rattle.iox_negotiate_table.specs.declared.entry.Entry.TheVariants.{Locked, Described}
use Rattle.iox_negotiate_table.specs.declared.node.Node.{Node as TableNode}
use Rattle.iox_negotiate_table.specs.declared.node.Node.TheVariants as table_node
use Rattle.iox_negotiate_table.specs.declared.segment.Segment.TheVariants as segment

-- This node of the machine as a node of a table.
abbrev pub table_node_of : Node → TableNode
table_node_of (Own number) = table_node.Own number
table_node_of (Foreign number) = table_node.Foreign number

-- The nodes in a segment as the machine has them: an own node with as many factories as are counted, another node with one.
abbrev pub seats_of : Nodes → List (Node × ℕ)
seats_of seated = map (λ (entry : ℕ × ℕ). (Own entry.0, entry.1)) seated.own ++ map (λ (number : ℕ). (Foreign number, 1)) seated.foreign

-- The number of factories in each entry that the list has for this node.
abbrev pub counts_of : Node → List (Node × ℕ) → List ℕ
counts_of node nodes = map (λ (entry : Node × ℕ). entry.1) (filter (λ (entry : Node × ℕ). same_node entry.0 node) nodes)

-- The nodes in a segment are those in a phase, each with as many factories, and each once; their order may differ.
pub record NodesStand (seated : Nodes) (nodes : List (Node × ℕ)) : Type 0 where
  pub same : (node : Node) → counts_of node nodes ≡ counts_of node (seats_of seated)
  pub once : (node : Node) → length (counts_of node nodes) ≤ 1
  pub many : length nodes ≡ count_in seated

-- The numbers that were taken under a hash, the last one first: each is below the one that was taken next.
abbrev pub AreFalling : ℕ → List ℕ → Type 0
AreFalling next [] = Unit {0}
AreFalling next (number ∷ before) = (number < next) × AreFalling number before

-- Some number was taken, and `So` holds of the last one.
abbrev pub IsLast : (ℕ → Type 0) → List ℕ → Type 0
IsLast So [] = ⊥
IsLast So (number ∷ before) = So number

module _ (pattern : MessagingPattern) (name : List ℕ) where
  -- The agreement as the description of the service of this pattern and name.
  abbrev pub description_of : Agreement → Description
  description_of agreed = agreement name (service_hash_of pattern name) agreed.settings agreed.attributes

  module _ (table : Contents) where
    -- The agreement is published under a number: its line is stored under the hash, in a version that can express all of it; it is
    -- within the limits, and has the pattern.
    pub record IsDescribed (agreed : Agreement) (number : ℕ) : Type 0 where
      pub version : Version
      pub said : HasAll version agreed.settings
      pub described : entry_at (service_hash_of pattern name) table ≡ Some (Described number (line version (description_of agreed)))
      pub kind : pattern_of agreed.settings ≡ pattern
      pub within : IsWithinLimits (description_of agreed)

    -- The segment of a number is open, and has capacity for as many nodes as the agreement says; these nodes are registered in it.
    pub record IsOpenTo (agreed : Agreement) (nodes : List (Node × ℕ)) (number : ℕ) : Type 0 where
      pub seated : Nodes
      pub stands : segment_at (service_hash_of pattern name) number table ≡ Some (segment.Open seated)
      pub nodes_stand : NodesStand seated nodes
      pub room : seated.max_nodes ≡ max_nodes_of agreed.settings

    -- What is stored under the hash after these numbers were taken: nothing; a lock with the last number; or the description with the
    -- last number, whose segment is open, or emptied by the node that left last.
    abbrev pub Lies : Phase → List ℕ → Type 0
    Lies (Absent lives) taken = entry_at (service_hash_of pattern name) table ≡ None
    Lies (BeingMade life by) taken =
        IsLast (λ number. entry_at (service_hash_of pattern name) table ≡ Some (Locked (table_node_of by) number)) taken
    Lies (Published life agreed nodes) taken = IsLast (λ number. IsDescribed agreed number × IsOpenTo agreed nodes number) taken
    Lies (Emptied life agreed by) taken =
        IsLast (λ number. IsDescribed agreed number
        × (segment_at (service_hash_of pattern name) number table ≡ Some (segment.Emptied (table_node_of by)))) taken

    -- The table represents this phase of the pattern and name, after these numbers were taken there, one for each lifetime. Only what is
    -- described there has a segment.
    pub record PhaseStands (taken : List ℕ) (phase : Phase) : Type 0 where
      pub lives : life_of phase ≡ length taken
      pub falling : AreFalling table.next taken
      pub lies : Lies phase taken
      pub segments : (number : ℕ) → is_published (service_hash_of pattern name) number table ≡ false
          → segment_at (service_hash_of pattern name) number table ≡ None

-- The table of services represents the phases of a state, for these names, in each pattern, after these numbers were taken for each. It is
-- a table that can be reached.
pub record TableStands {T : Type 0} (names : List (List ℕ)) (taken : MessagingPattern → List ℕ → List ℕ) (table : Contents)
    (state : State T) : Type 0 where
  pub reached : IsReached table
  pub phases : (pattern : MessagingPattern) (name : List ℕ) → IsAmong names name
      → PhaseStands pattern name table (taken pattern name) (state.phases pattern name)
