-- What a contract knows of an index set that threads share.
use Rattle.std.specs.Prelude.{ℕ, Bool}
use Rattle.iox_container.specs.Unique.{UniqueSetState}

-- The capacity of the set, and whether it was locked before it was shared.
pub record SharedSetState : Type 0 where
  pub capacity : ℕ
  pub locked : Bool

-- What is known of a set once it is shared.
abbrev pub shared_form : UniqueSetState → SharedSetState
shared_form set = record { capacity = set.capacity; locked = set.locked }

-- An index that is held.
pub record HeldIndex : Type 0 where
  pub index : ℕ
