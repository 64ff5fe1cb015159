-- What the closing of a factory leaves.
use Rattle.std.specs.Prelude.{◌≡◌, ◌≢◌, ◌-◌, ℕ, Bool, true, false, List, Option, None, Some, Result, Ok, nat_eq, nat_lt, if◌then◌else◌}
use Rattle.iox_negotiate_table.specs.DescribeBase.declared.hash.ServiceHash.{ServiceHash}
use Rattle.iox_negotiate_table.specs.NegotiateBase.Access.{Access}
use Rattle.iox_negotiate_table.specs.NegotiateBase.Runs.{Went}
use Rattle.iox_negotiate.specs.NegotiateBase.declared.errors.close.CloseError.{CloseError}
use Rattle.iox_negotiate.specs.Factory.{Closes}
use Rattle.iox_negotiate_table.specs.declared.entry.Entry.TheVariants.{Described}
use Rattle.iox_negotiate_table.specs.declared.segment.Segment.TheVariants.{Open}
use Rattle.iox_negotiate_table.specs.Nodes.{Nodes, count_in, factories_of}
use Rattle.iox_negotiate_table.specs.Contents.{Contents, entry_at, segment_at}
use Rattle.iox_negotiate_table.specs.Laws.{IsOpenIn}
use Rattle.iox_negotiate_table.specs.Stepped.{Steps, SteppedSight}
use Rattle.iox_negotiate.specs.Histories.{IsReached}

-- One factory fewer than `count`; none after the last one.
abbrev pub one_less : ℕ → Option ℕ
one_less count = if nat_lt 1 count then Some (count - 1) else None

-- The node has one factory fewer, and is removed if it was its last one; all other nodes are unchanged.
pub record TakesOneOff (node : ℕ) (before after : Nodes) : Type 0 where
  pub off : (count : ℕ) → factories_of before node ≡ Some count → factories_of after node ≡ one_less count
  pub others : (other : ℕ) → other ≢ node → factories_of after other ≡ factories_of before other
  pub foreign : after.foreign ≡ before.foreign
  pub room : after.max_nodes ≡ before.max_nodes

-- If no node is left, the description and the segment are removed; else both exist.
abbrev pub StandsOrGone : Bool → ServiceHash → ℕ → List ℕ → Nodes → Contents → Type 0
StandsOrGone true hash number bytes after new = (entry_at hash new ≡ None) × (segment_at hash number new ≡ None)
StandsOrGone false hash number bytes after new = (entry_at hash new ≡ Some (Described number bytes))
    × (segment_at hash number new ≡ Some (Open after))

-- What is under this hash is unchanged.
pub record IsUntouched (other : ServiceHash) (old new : Contents) : Type 0 where
  pub entry : entry_at other new ≡ entry_at other old
  pub segments : (number : ℕ) → segment_at other number new ≡ segment_at other number old

-- Closing a factory in its storage succeeds: its node has one factory fewer, the last factory of the last node removes the
-- description and the segment, and nothing else changes.
abbrev pub ClosesOne : Type 0
ClosesOne = (hash : ServiceHash) (number node : ℕ) (bytes : List ℕ) (old new : Steps) (made : List Access)
    (result : Result (Unit {0}) CloseError)
    (is_open : IsOpenIn hash number node bytes old.table) → IsReached old.table → Closes hash number node made result
    → Went SteppedSight old made new
    → (after : Nodes) × (result ≡ Ok tt) × TakesOneOff node is_open.nodes after
    × StandsOrGone (nat_eq (count_in after) 0) hash number bytes after new.table
    × ((other : ServiceHash) → other ≢ hash → IsUntouched other old.table new.table)
