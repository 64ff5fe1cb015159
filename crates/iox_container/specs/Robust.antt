-- An index set that knows the owner of each held index.
use Rattle.std.specs.Prelude.{ℕ, Bool, true, false, not, List, Option, None, Some, is_some, Result, Ok, Err, replicate, slice_get}
use Rattle.std.specs.Prelude.{slice_set, ◌==◌, ◌||◌, if◌then◌else◌}
use Rattle.std.specs.List.{count_by, position}
use Rattle.iox_container.specs.declared.error.UniqueIndexSetAcquireFailure.{UniqueIndexSetAcquireFailure}
use Rattle.iox_container.specs.declared.error.UniqueIndexSetAcquireFailure.TheVariants.{OutOfIndices, IsLocked}
use Rattle.iox_container.specs.declared.release.ReleaseMode.{ReleaseMode}
use Rattle.iox_container.specs.Release.{locks}
use Rattle.iox_container.specs.Recovery.{asked_from, Recovers}

-- The owner of each index below the capacity, if it is held, and whether the set is locked for good.
pub record RobustSetState : Type 0 where
  pub holders : List (Option ℕ)
  pub locked : Bool

-- A set of which no index is held.
abbrev pub new_robust_set : ℕ → RobustSetState
new_robust_set capacity = record { holders = replicate capacity None; locked = false }

-- Whether this index exists and is held.
abbrev pub has_holder : Option (Option ℕ) → Bool
has_holder (Some (Some owner)) = true
has_holder holder = false

-- Whether the index is held.
abbrev pub is_held : ℕ → RobustSetState → Bool
is_held index set = has_holder (slice_get set.holders index)

-- How many indices are held.
abbrev pub borrowed : RobustSetState → ℕ
borrowed set = count_by is_some set.holders

-- The lowest free index, if there is one.
abbrev pub lowest_free : RobustSetState → Option ℕ
lowest_free set = position (λ holder. not (is_some holder)) set.holders

-- The result of `acquire`: refused if the set is locked, else if no index is free, else the lowest free index.
abbrev pub answer_of : Bool → Option ℕ → Result ℕ UniqueIndexSetAcquireFailure
answer_of true free = Err IsLocked
answer_of false None = Err OutOfIndices
answer_of false (Some index) = Ok index

-- The set after an index is released.
abbrev pub freed : ℕ → RobustSetState → RobustSetState
freed index set = record set { holders = slice_set set.holders index None }

-- The set after a release in this mode, which may lock it.
abbrev pub settled : ReleaseMode → RobustSetState → RobustSetState
settled mode set = record set { locked = set.locked || locks mode (borrowed set) }

-- Whether this index is held by this owner.
abbrev pub is_of : ℕ → Option ℕ → Bool
is_of owner None = false
is_of owner (Some holder) = holder == owner

-- The index, if the owner holds it.
abbrev pub index_of : ℕ → ℕ → Option ℕ → Option ℕ
index_of owner index holder = if is_of owner holder then Some index else None

-- The indices that an owner holds, in rising order.
abbrev pub held_by : ℕ → List (Option ℕ) → List ℕ
held_by owner holders = asked_from (index_of owner) 0 holders

-- `decide` was called once for each index that the owner holds, in rising order, and the indices for which it returned true were released;
-- `after` is its last state.
abbrev pub Recovered : {F : Type 0} → (F → ℕ → Bool → F → Type 0) → ℕ → F → List (Option ℕ) → List (Option ℕ) → F → Type 0
Recovered R owner decide old new after = Recovers (index_of owner) (λ index. index) None R decide old new after
