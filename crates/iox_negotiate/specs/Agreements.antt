-- What was agreed under a number stays agreed for good.
use Rattle.std.specs.Prelude.{◌≡◌, ℕ, List, Option, None, Some, Ok}
use Rattle.iox_negotiate_table.specs.DescribeSettings.Agreement.{Agreement}
use Rattle.iox_negotiate_table.specs.Describe.Line.{Spells}
use Rattle.iox_negotiate_table.specs.Describe.Within.{IsWithinLimits}
use Rattle.iox_negotiate_table.specs.NegotiateBase.declared.request.Opened.{Opened}
use Rattle.iox_negotiate_table.specs.declared.entry.Entry.TheVariants.{Described}
use Rattle.iox_negotiate_table.specs.Contents.{Contents, entry_at}
use Rattle.iox_negotiate.specs.Histories.{Event, Ran, IsReached}
use Rattle.iox_negotiate.specs.Calls.{Call, Creates, Opening, Either, Goes}

-- Bytes that encode this agreement are published under the number.
abbrev pub IsPublished : ℕ → Agreement → Contents → Type 0
IsPublished number agreed table =
    (bytes : List ℕ) × Spells bytes agreed × (entry_at agreed.service_hash table ≡ Some (Described number bytes))

-- This agreement is within the limits of a description, and was published under the number in a table from which this one came.
pub record WasAgreed (number : ℕ) (agreed : Agreement) (table : Contents) : Type 0 where
  pub before : Contents
  pub events : List Event
  pub is_reached : IsReached before
  pub published : IsPublished number agreed before
  pub within : IsWithinLimits agreed
  pub ran : Ran before events table

-- The service that a call opened or created, if it did.
abbrev pub opened_by : {V : ℕ → Type 0} → Call V → Option Opened
opened_by (Creates node agreed refusal (Ok service)) = Some service
opened_by (Opening kind hash node verdict (Ok service)) = Some service
opened_by (Either kind node verdict agreed refusal (Ok service)) = Some service
opened_by call = None

-- What a call opens or creates under a number is exactly what was ever agreed under it, and from then on it was agreed, whoever acts on the
-- table in the meantime.
abbrev pub AgreesAsBefore : (ℕ → Type 0) → Type 0
AgreesAsBefore V = (call : Call V) (old new : Contents) (service : Opened)
    → IsReached old → Goes call old new → opened_by call ≡ Some service → IsWithinLimits service.description
    → WasAgreed service.number service.description new
    × ((agreed : Agreement) → WasAgreed service.number agreed old → agreed ≡ service.description)
