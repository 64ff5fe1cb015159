-- An index set that hands out the index released last first.
use Rattle.std.specs.Prelude.{ℕ, ◌≡◌, ◌≢◌, ◌<◌, ◌-◌, Bool, true, false, not, ◌&&◌, ◌||◌, List, [], ◌∷◌, Result, Ok, Err, length, drop}
use Rattle.std.specs.Prelude.{nat_lt, slice_index_or}
use Rattle.std.specs.List.{list_any, range_with_len, IsDistinct}
use Rattle.std.proofs.Math.Dec.{eqb}
use Rattle.iox_container.specs.declared.error.UniqueIndexSetAcquireFailure.{UniqueIndexSetAcquireFailure}
use Rattle.iox_container.specs.declared.error.UniqueIndexSetAcquireFailure.TheVariants.{OutOfIndices, IsLocked}
use Rattle.iox_container.specs.declared.release.ReleaseMode.{ReleaseMode}
use Rattle.iox_container.specs.Release.{locks}

-- The capacity, the free indices in the order in which they are handed out, and whether the set is locked for good.
pub record UniqueSetState : Type 0 where
  pub capacity : ℕ
  pub free : List ℕ
  pub locked : Bool

-- A set of which no index is held: it hands out 0, 1, 2 and so on.
abbrev pub new_unique_set : ℕ → UniqueSetState
new_unique_set capacity = record { capacity = capacity; free = range_with_len 0 capacity; locked = false }

-- Whether the index is one of these.
abbrev pub is_among : ℕ → List ℕ → Bool
is_among index indices = list_any (λ other. eqb index other) indices

-- Whether the index is held: it is below the capacity and not free.
abbrev pub is_held : ℕ → UniqueSetState → Bool
is_held index set = nat_lt index set.capacity && not (is_among index set.free)

-- How many indices are held.
abbrev pub borrowed : UniqueSetState → ℕ
borrowed set = set.capacity - length set.free

-- The result of an acquire: refused if the set is locked, else if no index is free, else the first free index.
abbrev pub answer_of : Bool → List ℕ → Result ℕ UniqueIndexSetAcquireFailure
answer_of true free = Err IsLocked
answer_of false [] = Err OutOfIndices
answer_of false (index ∷ free) = Ok index

-- The set after its first free index is handed out.
abbrev pub acquired : UniqueSetState → UniqueSetState
acquired set = record set { free = drop 1 set.free }

-- The set after an index is released, which is then the first free one.
abbrev pub freed : ℕ → UniqueSetState → UniqueSetState
freed index set = record set { free = index ∷ set.free }

-- The set after a release in this mode, which may lock it.
abbrev pub settled : ReleaseMode → UniqueSetState → UniqueSetState
settled mode set = record set { locked = set.locked || locks mode (borrowed set) }

-- The index isn't held in the set `old` and is held in the set `new`, and no other index differs.
pub record Takes (index : ℕ) (old new : UniqueSetState) : Type 0 where
  pub was_free : is_held index old ≡ false
  pub is_taken : is_held index new ≡ true
  pub others : (other : ℕ) → other ≢ index → is_held other new ≡ is_held other old

-- The free indices are exactly those below the capacity that aren't marked as held, each listed once.
pub record AreFree (held : List Bool) (free : List ℕ) : Type 0 where
  pub distinct : IsDistinct eqb free
  pub below : (index : ℕ) → is_among index free ≡ true → index < length held
  pub marked : (index : ℕ) → index < length held → slice_index_or held index true ≡ not (is_among index free)
