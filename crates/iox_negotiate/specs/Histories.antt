-- What happens to a table, one event after another.
use Rattle.std.specs.Prelude.{◌≡◌, ℕ, List, [], ◌∷◌, Result}
use Rattle.std.specs.declared.alloc.AllocError.{AllocError}
use Rattle.iox_negotiate_table.specs.DescribeBase.declared.hash.ServiceHash.{ServiceHash}
use Rattle.iox_negotiate_table.specs.NegotiateBase.Access.{Access}
use Rattle.iox_negotiate_table.specs.declared.step.ForeignStep.{ForeignStep}
use Rattle.iox_negotiate_table.specs.Contents.{Contents, empty_table}
use Rattle.iox_negotiate_table.specs.Foreign.{Acts}
use Rattle.iox_negotiate_table.specs.Sights.{Sight}

-- An event: a storage operation of one of the table's own nodes, or an action of a foreign node under a hash.
pub data Event : Type 0 where
  Accesses : (access : Access) → Event
  Steps : (hash : ServiceHash) (step : ForeignStep) → Event

-- The event leads from one table to the other.
abbrev pub Happens : Contents → Event → Contents → Type 0
Happens old (Accesses access) new = Sight old access new
Happens old (Steps hash step) new = (result : Result (Unit {0}) AllocError) × Acts hash step old result new

-- These events, one after another, lead from one table to the other.
abbrev pub Ran : Contents → List Event → Contents → Type 0
Ran old [] new = new ≡ old
Ran old (event ∷ events) new = (mid : Contents) × Happens old event mid × Ran mid events new

-- The table can be reached: some events lead to it from a new table.
pub record IsReached (table : Contents) : Type 0 where
  pub id : ℕ
  pub events : List Event
  pub ran : Ran (empty_table id) events table
