-- The maximum number of nodes of a segment is the agreed one.
use Rattle.std.specs.Prelude.{◌≡◌, ℕ, List, [], ◌∷◌, ◌++◌, None, Some}
use Rattle.iox_negotiate_table.specs.DescribeBase.declared.hash.ServiceHash.{ServiceHash}
use Rattle.iox_negotiate_table.specs.DescribeSettings.Agreement.{Agreement, max_nodes_of}
use Rattle.iox_negotiate_table.specs.Describe.Line.{Spells}
use Rattle.iox_negotiate_table.specs.Describe.Within.{IsWithinLimits}
use Rattle.iox_negotiate_table.specs.NegotiateBase.Access.{Access}
use Rattle.iox_negotiate_table.specs.NegotiateBase.Runs.{Went}
use Rattle.iox_negotiate_table.specs.declared.step.ForeignStep.{ForeignStep}
use Rattle.iox_negotiate_table.specs.Stepped.{Steps, SteppedSight}
use Rattle.iox_negotiate_table.specs.declared.entry.Entry.TheVariants.{Described}
use Rattle.iox_negotiate_table.specs.declared.segment.Segment.TheVariants.{Open}
use Rattle.iox_negotiate_table.specs.Nodes.{Nodes}
use Rattle.iox_negotiate_table.specs.Contents.{Contents, empty_table, entry_at, segment_at}
use Rattle.iox_negotiate.specs.Factories.{Factory}
use Rattle.iox_negotiate.specs.Calls.{Call, Creates, Either, Tells, Called}

-- What is to be agreed is within the limits, unless it is refused for its settings.
abbrev pub IsWithin : {V : ℕ → Type 0} → Call V → Type 0
IsWithin (Creates node agreed refusal result) = refusal ≡ None → IsWithinLimits agreed
IsWithin (Either kind node verdict agreed refusal result) = refusal ≡ None → IsWithinLimits agreed
IsWithin call = Unit {0}

-- Each of these calls agrees on what is within the limits, unless its settings are refused.
abbrev pub AreWithin : {V : ℕ → Type 0} → List (Call V) → Type 0
AreWithin [] = Unit {0}
AreWithin (call ∷ calls) = IsWithin call × AreWithin calls

-- After any calls in a new table, the maximum number of nodes in the segment of each published service is the agreed one.
abbrev pub RoomsAreAgreed : (ℕ → Type 0) → Type 0
RoomsAreAgreed V = (id : ℕ) (calls : List (Call V)) (table : Contents) (held : List Factory) (hash : ServiceHash) (number : ℕ)
    (bytes : List ℕ) (agreed : Agreement) (nodes : Nodes)
    → AreWithin calls → Called (empty_table id) [] calls table held → entry_at hash table ≡ Some (Described number bytes)
    → Spells bytes agreed → IsWithinLimits agreed
    → segment_at hash number table ≡ Some (Open nodes) → nodes.max_nodes ≡ max_nodes_of agreed.settings

-- The same holds after each storage operation within a call.
abbrev pub RoomsInsideCalls : (ℕ → Type 0) → Type 0
RoomsInsideCalls V = (id : ℕ) (calls : List (Call V)) (table : Contents) (held : List Factory) (call : Call V)
    (lists : List (List ForeignStep)) (mid : Steps) (done rest : List Access)
    (hash : ServiceHash) (number : ℕ) (bytes : List ℕ) (agreed : Agreement) (nodes : Nodes)
    → AreWithin calls → IsWithin call → Called (empty_table id) [] calls table held → Tells call (done ++ rest)
    → Went SteppedSight (record { table = table; lists = lists }) done mid
    → entry_at hash mid.table ≡ Some (Described number bytes) → Spells bytes agreed → IsWithinLimits agreed
    → segment_at hash number mid.table ≡ Some (Open nodes)
    → nodes.max_nodes ≡ max_nodes_of agreed.settings
