-- What a refused call leaves of a table on which no foreign node acts.
use Rattle.std.specs.Prelude.{◌≡◌, ◌≤◌, ℕ, List, Err}
use Rattle.iox_negotiate_table.specs.NegotiateBase.Access.{Access}
use Rattle.iox_negotiate_table.specs.NegotiateBase.Runs.{Went}
use Rattle.iox_negotiate_table.specs.Contents.{Contents}
use Rattle.iox_negotiate_table.specs.Sights.{Sight}
use Rattle.iox_negotiate.specs.Calls.{Call, Creates, Opening, Either, Tells}
use Rattle.iox_negotiate.specs.Histories.{IsReached}

-- The contents of the table are unchanged; only the next number may have risen.
pub record IsAsBefore (old new : Contents) : Type 0 where
  pub id : new.id ≡ old.id
  pub entries : new.entries ≡ old.entries
  pub segments : new.segments ≡ old.segments
  pub next : old.next ≤ new.next

-- The call that creates, opens or does either is refused.
abbrev pub IsRefused : {V : ℕ → Type 0} → Call V → Type 0
IsRefused (Creates node agreed refusal (Err failure)) = Unit {0}
IsRefused (Opening kind hash node verdict (Err failure)) = Unit {0}
IsRefused (Either kind node verdict agreed refusal (Err failure)) = Unit {0}
IsRefused call = ⊥

-- A refused call leaves every table that can be reached unchanged, provided that other nodes do nothing between its storage operations.
abbrev pub RefusedLeavesAll : (ℕ → Type 0) → Type 0
RefusedLeavesAll V = (call : Call V) (made : List Access) (old new : Contents) → IsReached old → IsRefused call → Tells call made
    → Went Sight old made new → IsAsBefore old new
