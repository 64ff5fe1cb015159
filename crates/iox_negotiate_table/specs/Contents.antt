-- The contents of a table: a lock or a description under each hash, and a segment under each hash and number.
use Rattle.std.specs.Prelude.{ℕ, ◌+◌, Bool, false, not, ◌&&◌, List, [], Option, None, Some, is_some, nat_eq, nat_lt}
use Rattle.std.specs.declared.cmp.Ordering.{Ordering}
use Rattle.std.specs.Ordering.{nat_cmp, ordering_then}
use Rattle.std.specs.Cmp.Lexicographic.{slice_cmp}
use Rattle.std.specs.BTreeMap.{insert_entry, is_at}
use Rattle.std.specs.Map.{lookup, set_value, remove_entry}
use Rattle.iox_negotiate_base.specs.DescribeBase.declared.hash.ServiceHash.{ServiceHash}
use Rattle.iox_negotiate_table.specs.declared.node.Node.{Node}
use Rattle.iox_negotiate_table.specs.declared.node.Node.TheVariants.{Own}
use Rattle.iox_negotiate_table.specs.declared.entry.Entry.{Entry}
use Rattle.iox_negotiate_table.specs.declared.entry.Entry.TheVariants.{Locked, Described}
use Rattle.iox_negotiate_table.specs.declared.segment.Segment.{Segment}
use Rattle.iox_negotiate_table.specs.Segments.{is_emptied}

-- The id of the table, the number that the next lock gets, the entries in rising order of digests, and the segments in rising order of
-- digests and numbers.
pub record Contents : Type 0 where
  pub id : ℕ
  pub next : ℕ
  pub entries : List (List ℕ × Entry)
  pub segments : List ((List ℕ × ℕ) × Segment)

-- An empty table, in which no number was given out.
abbrev pub empty_table : ℕ → Contents
empty_table id = record { id = id; next = 1; entries = []; segments = [] }

-- The order of digests.
abbrev pub digest_cmp : List ℕ → List ℕ → Ordering
digest_cmp a b = slice_cmp nat_cmp a b

-- The order of digests with numbers.
abbrev pub place_cmp : List ℕ × ℕ → List ℕ × ℕ → Ordering
place_cmp a b = ordering_then (slice_cmp nat_cmp a.0 b.0) (nat_cmp a.1 b.1)

-- The entry under a hash, if there is one.
abbrev pub entry_at : ServiceHash → Contents → Option Entry
entry_at hash table = lookup (is_at (digest_cmp hash.digest)) table.entries

-- The segment of a service, if there is one.
abbrev pub segment_at : ServiceHash → ℕ → Contents → Option Segment
segment_at hash number table = lookup (is_at (place_cmp (hash.digest, number))) table.segments

-- The table after an entry is added under a hash that had none.
abbrev pub with_new_entry : ServiceHash → Entry → Contents → Contents
with_new_entry hash entry table = record table { entries = insert_entry digest_cmp table.entries hash.digest entry }

-- The table with another entry under a hash that has one.
abbrev pub with_entry : ServiceHash → Entry → Contents → Contents
with_entry hash entry table = record table { entries = set_value (is_at (digest_cmp hash.digest)) table.entries entry }

-- The table without the entry under a hash.
abbrev pub without_entry : ServiceHash → Contents → Contents
without_entry hash table = record table { entries = remove_entry (is_at (digest_cmp hash.digest)) table.entries }

-- The table after the segment of a service that had none is added.
abbrev pub with_new_segment : ServiceHash → ℕ → Segment → Contents → Contents
with_new_segment hash number segment table =
    record table { segments = insert_entry place_cmp table.segments (hash.digest, number) segment }

-- The table with another segment of a service that has one.
abbrev pub with_segment : ServiceHash → ℕ → Segment → Contents → Contents
with_segment hash number segment table =
    record table { segments = set_value (is_at (place_cmp (hash.digest, number))) table.segments segment }

-- The table without the segment of a service.
abbrev pub without_segment : ServiceHash → ℕ → Contents → Contents
without_segment hash number table =
    record table { segments = remove_entry (is_at (place_cmp (hash.digest, number))) table.segments }

-- The table after this node locked the hash, with the next number.
abbrev pub with_lock : ServiceHash → Node → Contents → Contents
with_lock hash node table = record (with_new_entry hash (Locked node table.next) table) { next = table.next + 1 }

-- Whether this entry is the lock of an own node with this number.
abbrev pub is_own_lock : ℕ → Option Entry → Bool
is_own_lock number (Some (Locked (Own node) at)) = nat_eq at number
is_own_lock number entry = false

-- Whether this entry is the lock of this own node with this number.
abbrev pub is_lock_of : ℕ → ℕ → Option Entry → Bool
is_lock_of node number (Some (Locked (Own by) at)) = nat_eq by node && nat_eq at number
is_lock_of node number entry = false

-- Whether this entry is the description of the service with this number.
abbrev pub is_description_of : ℕ → Option Entry → Bool
is_description_of number (Some (Described at bytes)) = nat_eq at number
is_description_of number entry = false

-- Whether the segment exists and its last node left.
abbrev pub is_left : Option Segment → Bool
is_left (Some segment) = is_emptied segment
is_left None = false

-- Whether an own node may make the segment of a service: it has the lock, the segment doesn't exist, and at least one node may be
-- registered.
abbrev pub may_make : ServiceHash → ℕ → ℕ → ℕ → Contents → Bool
may_make hash number node max_nodes table =
    is_lock_of node number (entry_at hash table) && not (is_some (segment_at hash number table)) && nat_lt 0 max_nodes

-- Whether a description may be published: an own node has the lock, and the segment exists.
abbrev pub may_publish : ServiceHash → ℕ → Contents → Bool
may_publish hash number table = is_own_lock number (entry_at hash table) && is_some (segment_at hash number table)

-- Whether the lock of an own node may be released: the segment doesn't exist.
abbrev pub may_unlock : ServiceHash → ℕ → Contents → Bool
may_unlock hash number table = is_own_lock number (entry_at hash table) && not (is_some (segment_at hash number table))

-- Whether the description of a service exists.
abbrev pub is_published : ServiceHash → ℕ → Contents → Bool
is_published hash number table = is_description_of number (entry_at hash table)

-- Whether a description may be removed: the last node left the service.
abbrev pub may_remove_description : ServiceHash → ℕ → Contents → Bool
may_remove_description hash number table = is_published hash number table && is_left (segment_at hash number table)

-- Whether a segment may be removed: it exists without its description.
abbrev pub may_remove_segment : ServiceHash → ℕ → Contents → Bool
may_remove_segment hash number table = not (is_published hash number table) && is_some (segment_at hash number table)
