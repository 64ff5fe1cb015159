-- Exactly the open factories are registered.
use Rattle.std.specs.Prelude.{◌≡◌, ℕ, List, [], ◌++◌, ◌⊎◌, Option, None, Some, nat_lt, if◌then◌else◌}
use Rattle.iox_negotiate_table.specs.DescribeBase.declared.hash.ServiceHash.{ServiceHash}
use Rattle.iox_negotiate_table.specs.NegotiateBase.Access.{Access}
use Rattle.iox_negotiate_table.specs.NegotiateBase.Runs.{Went}
use Rattle.iox_negotiate_table.specs.declared.step.ForeignStep.{ForeignStep}
use Rattle.iox_negotiate_table.specs.Stepped.{Steps, SteppedSight}
use Rattle.iox_negotiate_table.specs.declared.entry.Entry.TheVariants.{Described}
use Rattle.iox_negotiate_table.specs.declared.segment.Segment.TheVariants.{Open}
use Rattle.iox_negotiate_table.specs.Nodes.{Nodes, factories_of}
use Rattle.iox_negotiate_table.specs.Contents.{Contents, empty_table, entry_at, segment_at}
use Rattle.iox_negotiate.specs.Factories.{Factory, times}
use Rattle.iox_negotiate.specs.Calls.{Call, Tells, MayBegin, open_after, Called}

-- The count, if it is above 0.
abbrev pub any_of : ℕ → Option ℕ
any_of count = if nat_lt 0 count then Some count else None

-- The segment of each published service has exactly the own nodes that have factories of it among these, and counts as many factories of
-- each node.
abbrev pub AreCounted : List Factory → Contents → Type 0
AreCounted all table = (hash : ServiceHash) (number node : ℕ) (bytes : List ℕ) (nodes : Nodes)
    → entry_at hash table ≡ Some (Described number bytes) → segment_at hash number table ≡ Some (Open nodes)
    → factories_of nodes node ≡ any_of (times number node all)

-- After any calls in a new table, with any actions of other nodes before each storage operation and between the calls, exactly the open
-- factories are registered.
abbrev pub FactoriesAreCounted : (ℕ → Type 0) → Type 0
FactoriesAreCounted V = (id : ℕ) (calls : List (Call V)) (table : Contents) (held : List Factory)
    → Called (empty_table id) [] calls table held → AreCounted held table

-- After each storage operation within a call, exactly the factories that were open before it are registered, or exactly those that are open
-- after it.
abbrev pub CountedInsideCalls : (ℕ → Type 0) → Type 0
CountedInsideCalls V = (id : ℕ) (calls : List (Call V)) (table : Contents) (held : List Factory) (call : Call V)
    (lists : List (List ForeignStep)) (mid : Steps) (done rest : List Access)
    → Called (empty_table id) [] calls table held → MayBegin call held → Tells call (done ++ rest)
    → Went SteppedSight (record { table = table; lists = lists }) done mid
    → AreCounted held mid.table ⊎ AreCounted (open_after call held) mid.table
