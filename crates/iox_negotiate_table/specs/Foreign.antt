-- What the actions of foreign nodes find in a table, and what they leave.
use Rattle.std.specs.Prelude.{ℕ, ◌≡◌, ◌-◌, ◌^◌, ◌↔◌, Bool, true, false, not, ◌&&◌, Option, None, Some, is_some, Result, Ok, Err, nat_eq}
use Rattle.std.specs.Prelude.{IsTrue, if◌then◌else◌}
use Rattle.std.specs.declared.alloc.AllocError.{AllocError}
use Rattle.iox_negotiate_base.specs.DescribeBase.Hash.{service_hash_of}
use Rattle.iox_negotiate_base.specs.DescribeBase.declared.hash.ServiceHash.{ServiceHash}
use Rattle.iox_negotiate_base.specs.DescribeSettings.Agreement.{Agreement, max_nodes_of, pattern_of}
use Rattle.iox_negotiate_base.specs.DescribeSettings.Versions.{HasAll}
use Rattle.iox_negotiate_base.specs.DescribeSettings.declared.description.Version.{Version}
use Rattle.iox_negotiate_base.specs.DescribeSettings.declared.description.Version.TheVariants.{One, Two}
use Rattle.iox_negotiate_base.specs.Describe.Line.{line}
use Rattle.iox_negotiate_base.specs.Describe.Within.{IsWithinLimits}
use Rattle.iox_negotiate_table.specs.declared.node.Node.TheVariants.{Foreign}
use Rattle.iox_negotiate_table.specs.declared.entry.Entry.{Entry}
use Rattle.iox_negotiate_table.specs.declared.entry.Entry.TheVariants.{Locked, Described}
use Rattle.iox_negotiate_table.specs.declared.segment.Segment.{Segment}
use Rattle.iox_negotiate_table.specs.declared.segment.Segment.TheVariants.{Open}
use Rattle.iox_negotiate_table.specs.declared.step.ForeignStep.{ForeignStep}
use Rattle.iox_negotiate_table.specs.declared.step.ForeignStep.TheVariants.{Lock, GiveUp, Publish, PublishV1, Register, Leave, Remove}
use Rattle.iox_negotiate_table.specs.Nodes.{first_foreign}
use Rattle.iox_negotiate_table.specs.Segments.{RegistersIn, after_foreign_leave, is_emptied_by}
use Rattle.iox_negotiate_table.specs.Contents.{Contents, entry_at, segment_at, with_entry, without_entry, with_new_segment, with_segment}
use Rattle.iox_negotiate_table.specs.Contents.{without_segment, with_lock}

-- If the action is possible, it is made or memory runs out; if it isn't possible, nothing changes and memory doesn't run out.
abbrev pub DoneOrLacking : Bool → Contents → Contents → Result (Unit {0}) AllocError → Contents → Type 0
DoneOrLacking true done old (Ok happened) new = new ≡ done
DoneOrLacking true done old (Err lacking) new = new ≡ old
DoneOrLacking false done old (Ok happened) new = new ≡ old
DoneOrLacking false done old (Err lacking) new = ⊥

-- If the action is possible, it is made; it needs no memory.
abbrev pub Done : Bool → Contents → Contents → Result (Unit {0}) AllocError → Contents → Type 0
Done true done old result new = (result ≡ Ok tt) × (new ≡ done)
Done false done old result new = (result ≡ Ok tt) × (new ≡ old)

-- The number of the lock that this foreign node has, if it has one.
abbrev pub foreign_lock : ℕ → Option Entry → Option ℕ
foreign_lock node (Some (Locked (Foreign by) number)) = if nat_eq by node then Some number else None
foreign_lock node entry = None

-- The number of the service whose description exists, if one does.
abbrev pub published_number : Option Entry → Option ℕ
published_number (Some (Described number bytes)) = Some number
published_number entry = None

-- The description is within the limits and of the service with this hash: its pattern and its name have this hash, and it states this hash;
-- and a line of the version can state all of its settings.
abbrev pub IsFor : Version → ServiceHash → Agreement → Type 0
IsFor version hash agreed =
    IsWithinLimits agreed × (agreed.service_hash ≡ hash) × (service_hash_of (pattern_of agreed.settings) agreed.name ≡ hash)
    × HasAll version agreed.settings

-- The table after this foreign node published its service with a line of the version, in which the node is registered.
abbrev pub with_service : Version → ServiceHash → ℕ → ℕ → Agreement → Contents → Contents
with_service version hash number node agreed table =
    with_entry hash (Described number (line version agreed))
    (with_new_segment hash number (Open (first_foreign node (max_nodes_of agreed.settings))) table)

-- If the node has the lock, it publishes a line of the version, provided that the description is of the service with this hash.
abbrev pub PublishesForeign : Version → Option ℕ → ServiceHash → ℕ → Agreement → Contents → Result (Unit {0}) AllocError → Contents → Type 0
PublishesForeign version (Some number) hash node agreed old result new =
    (fits : Bool) × (IsTrue fits ↔ IsFor version hash agreed)
    × DoneOrLacking fits (with_service version hash number node agreed old) old result new
PublishesForeign version None hash node agreed old result new = (result ≡ Ok tt) × (new ≡ old)

-- The node is registered in the segment, if the segment exists.
abbrev pub RegistersAt : Option Segment → ServiceHash → ℕ → ℕ → Contents → Result (Unit {0}) AllocError → Contents → Type 0
RegistersAt (Some segment) hash number node old result new =
    (after : Segment) × RegistersIn node segment result after × (new ≡ with_segment hash number after old)
RegistersAt None hash number node old result new = (result ≡ Ok tt) × (new ≡ old)

-- The node is registered in the segment of the published service, if there is one.
abbrev pub RegistersForeign : Option ℕ → ServiceHash → ℕ → Contents → Result (Unit {0}) AllocError → Contents → Type 0
RegistersForeign (Some number) hash node old result new = RegistersAt (segment_at hash number old) hash number node old result new
RegistersForeign None hash node old result new = (result ≡ Ok tt) × (new ≡ old)

-- The table after the node left the segment, if the segment exists.
abbrev pub left_at : Option Segment → ServiceHash → ℕ → ℕ → Contents → Contents
left_at (Some segment) hash number node old = with_segment hash number (after_foreign_leave node segment) old
left_at None hash number node old = old

-- The table after the node left the segment of the published service, if there is one.
abbrev pub after_leaving : Option ℕ → ServiceHash → ℕ → Contents → Contents
after_leaving (Some number) hash node old = left_at (segment_at hash number old) hash number node old
after_leaving None hash node old = old

-- Whether the segment exists, and this foreign node was the last to leave it.
abbrev pub is_left_by : ℕ → Option Segment → Bool
is_left_by node (Some segment) = is_emptied_by node segment
is_left_by node None = false

-- The table after the node removed the description and the segment, if it was the last to leave.
abbrev pub after_removal : Option ℕ → ServiceHash → ℕ → Contents → Contents
after_removal (Some number) hash node old =
    if is_left_by node (segment_at hash number old) then without_segment hash number (without_entry hash old) else old
after_removal None hash node old = old

-- The result of a foreign node's action under a hash, and the table after it.
abbrev pub Acts : ServiceHash → ForeignStep → Contents → Result (Unit {0}) AllocError → Contents → Type 0
Acts hash (Lock node) old result new =
    DoneOrLacking (not (is_some (entry_at hash old)) && not (nat_eq old.next (2 ^ 64 - 1))) (with_lock hash (Foreign node) old) old
    result new
Acts hash (GiveUp node) old result new = Done (is_some (foreign_lock node (entry_at hash old))) (without_entry hash old) old result new
Acts hash (Publish node agreed) old result new =
    PublishesForeign Two (foreign_lock node (entry_at hash old)) hash node agreed old result new
Acts hash (PublishV1 node agreed) old result new =
    PublishesForeign One (foreign_lock node (entry_at hash old)) hash node agreed old result new
Acts hash (Register node) old result new = RegistersForeign (published_number (entry_at hash old)) hash node old result new
Acts hash (Leave node) old result new = (result ≡ Ok tt) × (new ≡ after_leaving (published_number (entry_at hash old)) hash node old)
Acts hash (Remove node) old result new = (result ≡ Ok tt) × (new ≡ after_removal (published_number (entry_at hash old)) hash node old)
