-- Theorems about every table.
use Rattle.std.specs.Prelude.{ℕ, ◌≡◌, ◌≤◌, List, Some, IsSome, Result}
use Rattle.std.specs.declared.alloc.AllocError.{AllocError}
use Rattle.iox_negotiate_base.specs.DescribeBase.declared.hash.ServiceHash.{ServiceHash}
use Rattle.iox_negotiate_base.specs.Access.{MakeSegment, Publish, OpenSegment}
use Rattle.iox_negotiate_base.specs.declared.answer.MakeSegmentAnswer.TheVariants.{Made}
use Rattle.iox_negotiate_base.specs.declared.answer.PublishAnswer.TheVariants.{Published}
use Rattle.iox_negotiate_base.specs.declared.answer.OpenSegmentAnswer.TheVariants.{Registered}
use Rattle.iox_negotiate_table.specs.declared.entry.Entry.TheVariants.{Described}
use Rattle.iox_negotiate_table.specs.declared.segment.Segment.TheVariants.{Open}
use Rattle.iox_negotiate_table.specs.declared.step.ForeignStep.{ForeignStep}
use Rattle.iox_negotiate_table.specs.Nodes.{Nodes, count_in, factories_of}
use Rattle.iox_negotiate_table.specs.Contents.{Contents, entry_at, segment_at}
use Rattle.iox_negotiate_table.specs.Foreign.{Acts}
use Rattle.iox_negotiate_table.specs.Stepped.{ActsAll}
use Rattle.iox_negotiate_table.specs.Sights.{Sight}

-- The service with this number is open for an own node: these bytes are published under its hash, its segment exists, the node is
-- registered, and no more nodes are registered than the maximum.
pub record IsOpenIn (hash : ServiceHash) (number node : ℕ) (bytes : List ℕ) (table : Contents) : Type 0 where
  pub nodes : Nodes
  pub published : entry_at hash table ≡ Some (Described number bytes)
  pub stands : segment_at hash number table ≡ Some (Open nodes)
  pub is_in : IsSome (factories_of nodes node)
  pub few : count_in nodes ≤ nodes.max_nodes

-- A service that is open for an own node stays open for it, whatever action one foreign node makes.
abbrev pub StaysOpen : Type 0
StaysOpen = (hash : ServiceHash) (number node : ℕ) (bytes : List ℕ) (step : ForeignStep) (old new : Contents)
    (result : Result (Unit {0}) AllocError)
    → IsOpenIn hash number node bytes old → Acts hash step old result new → IsOpenIn hash number node bytes new

-- A service that is open for an own node stays open for it, whatever actions foreign nodes make.
abbrev pub StaysOpenThrough : Type 0
StaysOpenThrough = (hash : ServiceHash) (number node : ℕ) (bytes : List ℕ) (steps : List ForeignStep) (old new : Contents)
    (result : Result (Unit {0}) AllocError)
    → IsOpenIn hash number node bytes old → ActsAll hash steps old result new → IsOpenIn hash number node bytes new

-- No more nodes are registered in the segment than the maximum.
abbrev pub HasFew : ServiceHash → ℕ → Contents → Type 0
HasFew hash number table = (nodes : Nodes) → segment_at hash number table ≡ Some (Open nodes) → count_in nodes ≤ nodes.max_nodes

-- What an own node opens under a number is exactly the existing service with this number, and afterwards the service is open for the node.
abbrev pub OpenedIsOpen : Type 0
OpenedIsOpen = (hash : ServiceHash) (number node : ℕ) (old new : Contents) → HasFew hash number old
    → Sight old (OpenSegment hash number node Registered) new
    → (bytes : List ℕ) × (entry_at hash old ≡ Some (Described number bytes)) × IsOpenIn hash number node bytes new

-- A service that an own node makes and publishes is open for it.
abbrev pub CreatedIsOpen : Type 0
CreatedIsOpen = (hash : ServiceHash) (number node max_nodes : ℕ) (bytes : List ℕ) (old mid new : Contents)
    → Sight old (MakeSegment hash number node max_nodes Made) mid → Sight mid (Publish hash number bytes Published) new
    → IsOpenIn hash number node bytes new
