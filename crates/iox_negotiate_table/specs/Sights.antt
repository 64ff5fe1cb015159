-- What each storage operation finds in a table, and what it leaves.
use Rattle.std.specs.Prelude.{ℕ, ◌≡◌, ◌-◌, ◌^◌, Bool, true, false, List, Option, None, Some, nat_eq, ◌⊎◌}
use Rattle.iox_negotiate_base.specs.DescribeBase.declared.hash.ServiceHash.{ServiceHash}
use Rattle.iox_negotiate_base.specs.Access.{Access, Look, Lock, MakeSegment, Publish, Unlock, OpenSegment, Leave, RemoveDescription}
use Rattle.iox_negotiate_base.specs.Access.{RemoveSegment}
use Rattle.iox_negotiate_base.specs.declared.answer.LookAnswer.{LookAnswer}
use Rattle.iox_negotiate_base.specs.declared.answer.LookAnswer.TheVariants as look
use Rattle.iox_negotiate_base.specs.declared.answer.LockAnswer.{LockAnswer}
use Rattle.iox_negotiate_base.specs.declared.answer.LockAnswer.TheVariants as lock
use Rattle.iox_negotiate_base.specs.declared.answer.MakeSegmentAnswer.{MakeSegmentAnswer}
use Rattle.iox_negotiate_base.specs.declared.answer.MakeSegmentAnswer.TheVariants as making
use Rattle.iox_negotiate_base.specs.declared.answer.PublishAnswer.{PublishAnswer}
use Rattle.iox_negotiate_base.specs.declared.answer.PublishAnswer.TheVariants as publishing
use Rattle.iox_negotiate_base.specs.declared.answer.OpenSegmentAnswer.{OpenSegmentAnswer}
use Rattle.iox_negotiate_base.specs.declared.answer.OpenSegmentAnswer.TheVariants as opening
use Rattle.iox_negotiate_base.specs.declared.answer.LeaveAnswer.{LeaveAnswer}
use Rattle.iox_negotiate_base.specs.declared.answer.LeaveAnswer.TheVariants as leaving
use Rattle.iox_negotiate_base.specs.declared.answer.RemoveAnswer.{RemoveAnswer}
use Rattle.iox_negotiate_base.specs.declared.answer.RemoveAnswer.TheVariants as removing
use Rattle.iox_negotiate_table.specs.declared.node.Node.{Node}
use Rattle.iox_negotiate_table.specs.declared.node.Node.TheVariants.{Own}
use Rattle.iox_negotiate_table.specs.declared.entry.Entry.{Entry}
use Rattle.iox_negotiate_table.specs.declared.entry.Entry.TheVariants.{Locked, Described}
use Rattle.iox_negotiate_table.specs.declared.segment.Segment.{Segment}
use Rattle.iox_negotiate_table.specs.declared.segment.Segment.TheVariants.{Open}
use Rattle.iox_negotiate_table.specs.Nodes.{first_node}
use Rattle.iox_negotiate_table.specs.Segments.{Opens, after_leave, leave_answer}
use Rattle.iox_negotiate_table.specs.Contents.{Contents, entry_at, segment_at, with_entry, without_entry, with_new_segment, with_segment}
use Rattle.iox_negotiate_table.specs.Contents.{without_segment, with_lock, may_make, may_publish, may_unlock, is_published, is_left}
use Rattle.iox_negotiate_table.specs.Contents.{may_remove_description, may_remove_segment}

-- A lookup finds a lock or a description; copying a description may run out of memory.
abbrev pub Looks : Option Entry → LookAnswer → Type 0
Looks None answer = answer ≡ look.Absent
Looks (Some (Locked node number)) answer = answer ≡ look.Locked
Looks (Some (Described number bytes)) answer = (answer ≡ look.Found number bytes) ⊎ (answer ≡ look.OutOfMemory)

-- A hash without an entry is locked, and the service's lifetime that begins gets the next number, unless no number is left.
abbrev pub LocksFree : Bool → ServiceHash → Node → Contents → LockAnswer → Contents → Type 0
LocksFree true hash node old answer new = (answer ≡ lock.Fault) × (new ≡ old)
LocksFree false hash node old answer new =
    ((answer ≡ lock.Taken old.next) × (new ≡ with_lock hash node old)) ⊎ ((answer ≡ lock.OutOfMemory) × (new ≡ old))

-- A hash is locked if it has no entry; else the result says what the entry is.
abbrev pub LocksAt : Option Entry → ServiceHash → Node → Contents → LockAnswer → Contents → Type 0
LocksAt None hash node old answer new = LocksFree (nat_eq old.next (2 ^ 64 - 1)) hash node old answer new
LocksAt (Some (Locked by number)) hash node old answer new = (answer ≡ lock.IsLocked) × (new ≡ old)
LocksAt (Some (Described number bytes)) hash node old answer new = (answer ≡ lock.Exists) × (new ≡ old)

-- A node locks a hash.
abbrev pub Locks : ServiceHash → Node → Contents → LockAnswer → Contents → Type 0
Locks hash node old answer new = LocksAt (entry_at hash old) hash node old answer new

-- The segment is made with the node registered in it, or memory runs out, if that is permitted; else it fails.
abbrev pub Makes : Bool → ServiceHash → ℕ → ℕ → ℕ → Contents → MakeSegmentAnswer → Contents → Type 0
Makes true hash number node max_nodes old answer new =
    ((answer ≡ making.Made) × (new ≡ with_new_segment hash number (Open (first_node node max_nodes)) old))
    ⊎ ((answer ≡ making.OutOfMemory) × (new ≡ old))
Makes false hash number node max_nodes old answer new = (answer ≡ making.Fault) × (new ≡ old)

-- The description replaces the lock, or memory runs out, if that is permitted; else it fails.
abbrev pub Publishes : Bool → ServiceHash → ℕ → List ℕ → Contents → PublishAnswer → Contents → Type 0
Publishes true hash number bytes old answer new =
    ((answer ≡ publishing.Published) × (new ≡ with_entry hash (Described number bytes) old))
    ⊎ ((answer ≡ publishing.OutOfMemory) × (new ≡ old))
Publishes false hash number bytes old answer new = (answer ≡ publishing.Fault) × (new ≡ old)

-- The lock ends if that is permitted; else nothing changes.
abbrev pub Unlocks : Bool → ServiceHash → Contents → Contents → Type 0
Unlocks true hash old new = new ≡ without_entry hash old
Unlocks false hash old new = new ≡ old

-- The result of opening a segment without its description: marked if its last node left, else absent.
abbrev pub unopened : Bool → OpenSegmentAnswer
unopened true = opening.Marked
unopened false = opening.Absent

-- The segment of a service whose description exists is opened.
abbrev pub OpensPublished : Option Segment → ServiceHash → ℕ → ℕ → Contents → OpenSegmentAnswer → Contents → Type 0
OpensPublished (Some segment) hash number node old answer new = (after : Segment) × Opens node segment answer after
    × (new ≡ with_segment hash number after old)
OpensPublished None hash number node old answer new = (answer ≡ opening.Absent) × (new ≡ old)

-- If the description of this service exists, its segment is opened; else nothing changes.
abbrev pub OpensAt : Bool → Option Segment → ServiceHash → ℕ → ℕ → Contents → OpenSegmentAnswer → Contents → Type 0
OpensAt true segment hash number node old answer new = OpensPublished segment hash number node old answer new
OpensAt false segment hash number node old answer new = (answer ≡ unopened (is_left segment)) × (new ≡ old)

-- A node leaves the segment of a service whose description exists.
abbrev pub LeavesPublished : Option Segment → ServiceHash → ℕ → ℕ → Contents → LeaveAnswer → Contents → Type 0
LeavesPublished (Some segment) hash number node old answer new =
    (answer ≡ leave_answer segment (after_leave node segment)) × (new ≡ with_segment hash number (after_leave node segment) old)
LeavesPublished None hash number node old answer new = (answer ≡ leaving.Stays) × (new ≡ old)

-- If the description of this service exists, the node leaves; else nothing changes.
abbrev pub LeavesAt : Bool → Option Segment → ServiceHash → ℕ → ℕ → Contents → LeaveAnswer → Contents → Type 0
LeavesAt true segment hash number node old answer new = LeavesPublished segment hash number node old answer new
LeavesAt false segment hash number node old answer new = (answer ≡ leaving.Stays) × (new ≡ old)

-- The description or segment is removed if that is permitted; else nothing changes.
abbrev pub Removes : Bool → Contents → Contents → RemoveAnswer → Contents → Type 0
Removes true without old answer new = (answer ≡ removing.Removed) × (new ≡ without)
Removes false without old answer new = (answer ≡ removing.Fault) × (new ≡ old)

-- What a storage operation finds in the table, and the table after it.
abbrev pub Sight : Contents → Access → Contents → Type 0
Sight old (Look hash answer) new = Looks (entry_at hash old) answer × (new ≡ old)
Sight old (Lock hash node answer) new = Locks hash (Own node) old answer new
Sight old (MakeSegment hash number node max_nodes answer) new =
    Makes (may_make hash number node max_nodes old) hash number node max_nodes old answer new
Sight old (Publish hash number bytes answer) new = Publishes (may_publish hash number old) hash number bytes old answer new
Sight old (Unlock hash number) new = Unlocks (may_unlock hash number old) hash old new
Sight old (OpenSegment hash number node answer) new =
    OpensAt (is_published hash number old) (segment_at hash number old) hash number node old answer new
Sight old (Leave hash number node answer) new =
    LeavesAt (is_published hash number old) (segment_at hash number old) hash number node old answer new
Sight old (RemoveDescription hash number answer) new =
    Removes (may_remove_description hash number old) (without_entry hash old) old answer new
Sight old (RemoveSegment hash number answer) new =
    Removes (may_remove_segment hash number old) (without_segment hash number old) old answer new
