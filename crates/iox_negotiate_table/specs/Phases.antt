-- The phase of a service under a hash, and what a lookup and the actions of foreign nodes make of it.
use Rattle.std.specs.Prelude.{ℕ, ◌≡◌, Option, None, Some, List, Result, Ok, ◌⊎◌}
use Rattle.std.specs.declared.alloc.AllocError.{AllocError}
use Rattle.iox_negotiate_base.specs.DescribeBase.declared.hash.ServiceHash.{ServiceHash}
use Rattle.iox_negotiate_base.specs.Access.{Look}
use Rattle.iox_negotiate_base.specs.declared.answer.LookAnswer.{LookAnswer}
use Rattle.iox_negotiate_base.specs.declared.answer.LookAnswer.TheVariants as look
use Rattle.iox_negotiate_table.specs.declared.node.Node.{Node}
use Rattle.iox_negotiate_table.specs.declared.node.Node.TheVariants.{Foreign}
use Rattle.iox_negotiate_table.specs.declared.entry.Entry.{Entry}
use Rattle.iox_negotiate_table.specs.declared.entry.Entry.TheVariants.{Locked, Described}
use Rattle.iox_negotiate_table.specs.declared.segment.Segment.{Segment}
use Rattle.iox_negotiate_table.specs.declared.segment.Segment.TheVariants as segment
use Rattle.iox_negotiate_table.specs.declared.step.ForeignStep.TheVariants.{GiveUp, Remove}
use Rattle.iox_negotiate_table.specs.Nodes.{Nodes}
use Rattle.iox_negotiate_table.specs.Contents.{Contents, entry_at, segment_at, without_entry, without_segment}
use Rattle.iox_negotiate_table.specs.Foreign.{Acts}
use Rattle.iox_negotiate_table.specs.Sights.{Sight}

-- A service doesn't exist; or a node is making it, with this number; or it is published, with these nodes; or its last node, which was this
-- one, left it; or its description exists without a segment.
pub data Phase : Type 0 where
  Absent : Phase
  BeingMade : (by : Node) (number : ℕ) → Phase
  Published : (number : ℕ) (bytes : List ℕ) (nodes : Nodes) → Phase
  Emptied : (number : ℕ) (bytes : List ℕ) (by : Node) → Phase
  WithoutSegment : (number : ℕ) (bytes : List ℕ) → Phase

-- The phase of a service whose description exists, by its segment.
abbrev pub described_phase : ℕ → List ℕ → Option Segment → Phase
described_phase number bytes (Some (segment.Open nodes)) = Published number bytes nodes
described_phase number bytes (Some (segment.Emptied by)) = Emptied number bytes by
described_phase number bytes None = WithoutSegment number bytes

-- The phase of a service, by its entry and by the segments of its hash.
abbrev pub phase_by : Option Entry → (ℕ → Option Segment) → Phase
phase_by None segments = Absent
phase_by (Some (Locked by number)) segments = BeingMade by number
phase_by (Some (Described number bytes)) segments = described_phase number bytes (segments number)

-- The phase of the service with this hash in a table.
abbrev pub phase_of : ServiceHash → Contents → Phase
phase_of hash table = phase_by (entry_at hash table) (λ number. segment_at hash number table)

-- Only the foreign node that is creating the service releases its lock; in any other phase, and for any other node, nothing changes.
abbrev pub GivesUpItsOwn : Type 0
GivesUpItsOwn = (hash : ServiceHash) (node : ℕ) (old new : Contents) (result : Result (Unit {0}) AllocError)
    → Acts hash (GiveUp node) old result new
    → (result ≡ Ok tt)
    × ((number : ℕ) → phase_of hash old ≡ BeingMade (Foreign node) number → new ≡ without_entry hash old)
    × (((number : ℕ) → phase_of hash old ≡ BeingMade (Foreign node) number → ⊥) → new ≡ old)

-- Only the foreign node that left the service last removes its description and segment; in any other phase, and for any other node, nothing
-- changes.
abbrev pub RemovesItsOwn : Type 0
RemovesItsOwn = (hash : ServiceHash) (node : ℕ) (old new : Contents) (result : Result (Unit {0}) AllocError)
    → Acts hash (Remove node) old result new
    → (result ≡ Ok tt)
    × ((number : ℕ) (bytes : List ℕ) → phase_of hash old ≡ Emptied number bytes (Foreign node)
    → new ≡ without_segment hash number (without_entry hash old))
    × (((number : ℕ) (bytes : List ℕ) → phase_of hash old ≡ Emptied number bytes (Foreign node) → ⊥) → new ≡ old)

-- What a lookup shows of a phase: that the service doesn't exist, or is being made, or its description, for which memory may run out.
abbrev pub Shows : Phase → LookAnswer → Type 0
Shows Absent answer = answer ≡ look.Absent
Shows (BeingMade by number) answer = answer ≡ look.Locked
Shows (Published number bytes nodes) answer = (answer ≡ look.Found number bytes) ⊎ (answer ≡ look.OutOfMemory)
Shows (Emptied number bytes by) answer = (answer ≡ look.Found number bytes) ⊎ (answer ≡ look.OutOfMemory)
Shows (WithoutSegment number bytes) answer = (answer ≡ look.Found number bytes) ⊎ (answer ≡ look.OutOfMemory)

-- A lookup shows the phase, and changes nothing.
abbrev pub LookShowsThePhase : Type 0
LookShowsThePhase = (hash : ServiceHash) (answer : LookAnswer) (old new : Contents) → Sight old (Look hash answer) new
    → Shows (phase_of hash old) answer × (new ≡ old)
