-- Which port of a service stores which of its words.
use Rattle.std.specs.Prelude.{ℕ, ◌≡◌, ◌+◌, ◌<◌, ◌≤◌, length, slice_get, Option, None, Some}
use Rattle.iox_lanes_parties.specs.QueuesSteps.declared.access.Word.TheVariants.{Write, Read, Cell}
use Rattle.iox_lanes_parties.specs.QueuesSteps.declared.rings.ends.RingKind.{RingKind}
use Rattle.iox_lanes_parties.specs.QueuesSteps.declared.rings.ends.RingKind.TheVariants as kind
use Rattle.iox_lanes_parties.specs.LanesBase.declared.words.word.ConnectionRing.TheVariants.{Submission, Completion}
use Rattle.iox_lanes_parties.specs.LanesBase.declared.words.word.SharedWord.{SharedWord}
use Rattle.iox_lanes_parties.specs.LanesBase.declared.words.word.SharedWord.TheVariants.{Ring, Slot}
use Rattle.iox_lanes_parties.specs.declared.call.Party.{Party}
use Rattle.iox_lanes_parties.specs.declared.call.Party.TheVariants.{Publisher, Subscriber}
use Rattle.iox_lanes_threads_rule.specs.declared.service.Line.{Line}
use Rattle.iox_lanes_threads_rule.specs.declared.service.SlotRange.{SlotRange}
use Rattle.iox_lanes_threads_rule.specs.declared.service.Service.{Service}

-- The number of a port among all of them; the publishers come first.
abbrev pub number_among : Service → Party → ℕ
number_among s (Publisher place) = place
number_among s (Subscriber place) = length s.ranges + place

-- The connection exists, and the port is its publisher.
abbrev pub IsSender : Option Line → Party → Type 0
IsSender None name = ⊥
IsSender (Some line) name = name ≡ Publisher line.publisher

-- The connection exists, and the port is its subscriber.
abbrev pub IsReceiver : Option Line → Party → Type 0
IsReceiver None name = ⊥
IsReceiver (Some line) name = name ≡ Subscriber line.subscriber

-- A full ring of this kind refuses another message.
abbrev pub Refuses : RingKind → Type 0
Refuses kind.Overflowing = ⊥
Refuses kind.Refusing = Unit {0}

-- The connection exists and refuses when full, and the port is its subscriber, so nobody else takes messages out there.
abbrev pub IsLoneReader : Option Line → Party → Type 0
IsLoneReader None name = ⊥
IsLoneReader (Some line) name = Refuses line.kind × (name ≡ Subscriber line.subscriber)

-- The slot is one of the port's own.
abbrev pub HasSlot : Service → Party → ℕ → Type 0
HasSlot s (Publisher place) slot = (range : SlotRange) × (slice_get s.ranges place ≡ Some range) × (range.first ≤ slot)
    × (slot < range.first + range.count)
HasSlot s (Subscriber place) slot = ⊥

-- Only this port stores the word. The read position of an overflowing ring is moved by both its ends, so no port stores it alone.
abbrev pub Stores : Service → Party → SharedWord → Type 0
Stores s name (Ring connection Submission Write) = IsSender (slice_get s.lines connection) name
Stores s name (Ring connection Submission Read) = IsLoneReader (slice_get s.lines connection) name
Stores s name (Ring connection Submission (Cell cell)) = IsSender (slice_get s.lines connection) name
Stores s name (Ring connection Completion Write) = IsReceiver (slice_get s.lines connection) name
Stores s name (Ring connection Completion Read) = IsSender (slice_get s.lines connection) name
Stores s name (Ring connection Completion (Cell cell)) = IsReceiver (slice_get s.lines connection) name
Stores s name (Slot slot word) = HasSlot s name slot

-- The word is a position of a ring.
abbrev pub IsPosition : SharedWord → Type 0
IsPosition (Ring connection ring Write) = Unit {0}
IsPosition (Ring connection ring Read) = Unit {0}
IsPosition (Ring connection ring (Cell cell)) = ⊥
IsPosition (Slot slot word) = ⊥

-- The word is a cell of a ring.
abbrev pub IsCell : SharedWord → Type 0
IsCell (Ring connection ring Write) = ⊥
IsCell (Ring connection ring Read) = ⊥
IsCell (Ring connection ring (Cell cell)) = Unit {0}
IsCell (Slot slot word) = ⊥

-- The slots of a publisher come before those of later publishers.
abbrev pub RangesInRows : Service → Type 0
RangesInRows s = (one other : ℕ) (range behind : SlotRange) → slice_get s.ranges one ≡ Some range
    → slice_get s.ranges other ≡ Some behind → one < other
    → range.first + range.count ≤ behind.first

-- The word with the write position of a connection's submission ring.
abbrev pub write_word : ℕ → SharedWord
write_word connection = Ring connection Submission Write

-- The word with the read position of a connection's submission ring.
abbrev pub read_word : ℕ → SharedWord
read_word connection = Ring connection Submission Read
