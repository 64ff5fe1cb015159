-- The lifetimes of services: each has a number, a lock, and one description.
use Rattle.std.specs.Prelude.{◌≡◌, ◌<◌, ℕ, List, Some, None, ◌⊎◌}
use Rattle.iox_negotiate_table.specs.DescribeBase.declared.hash.ServiceHash.{ServiceHash}
use Rattle.iox_negotiate_table.specs.Describe.Line.{line}
use Rattle.iox_negotiate_table.specs.DescribeSettings.declared.description.Version.TheVariants.{One, Two}
use Rattle.iox_negotiate_table.specs.NegotiateBase.Access.{Lock, Publish, OpenSegment}
use Rattle.iox_negotiate_table.specs.NegotiateBase.declared.answer.LockAnswer.TheVariants.{Taken}
use Rattle.iox_negotiate_table.specs.NegotiateBase.declared.answer.PublishAnswer.TheVariants.{Published}
use Rattle.iox_negotiate_table.specs.NegotiateBase.declared.answer.OpenSegmentAnswer.TheVariants.{Registered}
use Rattle.iox_negotiate_table.specs.declared.node.Node.TheVariants.{Own, Foreign}
use Rattle.iox_negotiate_table.specs.declared.entry.Entry.{Entry}
use Rattle.iox_negotiate_table.specs.declared.entry.Entry.TheVariants.{Locked, Described}
use Rattle.iox_negotiate_table.specs.declared.step.ForeignStep.TheVariants as step
use Rattle.iox_negotiate_table.specs.Contents.{Contents, entry_at}
use Rattle.iox_negotiate_table.specs.Foreign.{IsFor}
use Rattle.iox_negotiate_table.specs.Laws.{HasFew, IsOpenIn}
use Rattle.iox_negotiate_table.specs.Sights.{Sight}
use Rattle.iox_negotiate.specs.Histories.{Event, Accesses, Steps, Happens, Ran, IsReached}

-- The number of the lifetime to which a lock or a description belongs.
abbrev pub number_of : Entry → ℕ
number_of (Locked node number) = number
number_of (Described number bytes) = number

-- The event takes a lock, with which the lifetime with this number begins.
abbrev pub Begins : Contents → Event → Contents → ℕ → Type 0
Begins old (Accesses (Lock hash node answer)) new number = answer ≡ Taken number
Begins old (Steps hash (step.Lock node)) new number = (entry_at hash old ≡ None) × (entry_at hash new ≡ Some (Locked (Foreign node) number))
Begins old event new number = ⊥

-- No number is given out twice, whatever happens between two locks: the number of each lifetime is above those before.
abbrev pub TakenOnce : Type 0
TakenOnce = (one other : Event) (before after later last : Contents) (events : List Event) (first second : ℕ)
    → Happens before one after → Begins before one after first → Ran after events later → Happens later other last
    → Begins later other last second → first < second

-- What a later entry of the same lifetime is: the same lock, or the description that replaced it; and a description stays as it is.
abbrev pub Continues : Entry → Entry → Type 0
Continues (Locked node number) (Locked by other) = by ≡ node
Continues (Locked node number) (Described other bytes) = Unit {0}
Continues (Described number bytes) (Locked by other) = ⊥
Continues (Described number bytes) (Described other later) = later ≡ bytes

-- A number belongs to one hash for good, and no other description is ever published under it.
abbrev pub OneLife : Type 0
OneLife = (old new : Contents) (events : List Event) (hash later_hash : ServiceHash) (entry later : Entry)
    → IsReached old → Ran old events new → entry_at hash old ≡ Some entry → entry_at later_hash new ≡ Some later
    → number_of later ≡ number_of entry
    → (later_hash ≡ hash) × Continues entry later

-- The event publishes these bytes under this number: an own node publishes while an own node has the lock, and a foreign node publishes a
-- line of its own service, of either version.
abbrev pub PublishesAs : ServiceHash → ℕ → List ℕ → Contents → Event → Type 0
PublishesAs hash number bytes old (Accesses (Publish under of text answer)) =
    (node : ℕ) × (entry_at hash old ≡ Some (Locked (Own node) number)) × (under ≡ hash) × (of ≡ number) × (text ≡ bytes)
    × (answer ≡ Published)
PublishesAs hash number bytes old (Steps under (step.Publish node agreed)) =
    (entry_at hash old ≡ Some (Locked (Foreign node) number)) × (under ≡ hash) × IsFor Two hash agreed × (bytes ≡ line Two agreed)
PublishesAs hash number bytes old (Steps under (step.PublishV1 node agreed)) =
    (entry_at hash old ≡ Some (Locked (Foreign node) number)) × (under ≡ hash) × IsFor One hash agreed × (bytes ≡ line One agreed)
PublishesAs hash number bytes old event = ⊥

-- A description that exists after an event existed before it, or this event published it in place of the lock of its own lifetime.
abbrev pub PublishedByItsLock : Type 0
PublishedByItsLock = (old new : Contents) (event : Event) (hash : ServiceHash) (number : ℕ) (bytes : List ℕ)
    → IsReached old → Happens old event new → entry_at hash new ≡ Some (Described number bytes)
    → (entry_at hash old ≡ Some (Described number bytes)) ⊎ PublishesAs hash number bytes old event

-- No more nodes are registered in any segment than its maximum.
abbrev pub FewAreIn : Type 0
FewAreIn = (table : Contents) (hash : ServiceHash) (number : ℕ) → IsReached table → HasFew hash number table

-- What an own node opens under a number is exactly the existing service with this number, and afterwards the service is open for the node.
abbrev pub OpenedStands : Type 0
OpenedStands = (hash : ServiceHash) (number node : ℕ) (old new : Contents) → IsReached old
    → Sight old (OpenSegment hash number node Registered) new
    → (bytes : List ℕ) × (entry_at hash old ≡ Some (Described number bytes)) × IsOpenIn hash number node bytes new
