-- The steps of a store and of a load of a single value that is stored in two cells alternately, by the stage of each.
use Rattle.std.specs.Prelude.{ℕ, ◌-◌, ◌≡◌, ◌==◌, Bool, true, false, List, [], ◌∷◌, ◌++◌}
use Rattle.iox_queues.specs.QueuesSteps.Access.{successor}
use Rattle.iox_queues.specs.QueuesSteps.declared.access.Word.TheVariants.{Write, Cell}
use Rattle.iox_queues.specs.QueuesSteps.declared.access.Access.{Access}
use Rattle.iox_queues.specs.QueuesSteps.declared.access.Access.TheVariants.{Load, Store, Local}
use Rattle.iox_queues.specs.declared.shared.single.Storing.{Storing}
use Rattle.iox_queues.specs.declared.shared.single.Storing.TheVariants as storing
use Rattle.iox_queues.specs.declared.shared.single.Loading.{Loading}
use Rattle.iox_queues.specs.declared.shared.single.Loading.TheVariants as loading

-- The next access of a store; the words that it stores in the cell are the value's own.
abbrev pub store_next : Storing → Access
store_next storing.Begun = Load Write
store_next (storing.SawWrite write) = Store (Cell write) 0
store_next (storing.Filled next) = Store Write next
store_next storing.Stored = Local

-- The stage of a store after the result of its access.
abbrev pub store_take : Storing → ℕ → Storing
store_take storing.Begun answer = storing.SawWrite answer
store_take (storing.SawWrite write) answer = storing.Filled (successor write)
store_take (storing.Filled next) answer = storing.Stored
store_take storing.Stored answer = storing.Stored

-- Whether the value is stored.
abbrev pub store_is_over : Storing → Bool
store_is_over storing.Begun = false
store_is_over (storing.SawWrite write) = false
store_is_over (storing.Filled next) = false
store_is_over storing.Stored = true

-- The next access of a load; the value is in the cell before the position.
abbrev pub load_next : Loading → Access
load_next loading.Begun = Load Write
load_next (loading.SawWrite write) = Load (Cell (write - 1))
load_next (loading.SawValue write) = Load Write
load_next loading.Loaded = Local

-- The stage after the second load of the position: finished if the position didn't move, else a new try.
abbrev pub load_seen : Bool → ℕ → Loading
load_seen true found = loading.Loaded
load_seen false found = loading.SawWrite found

-- The stage of a load after the result of its access.
abbrev pub load_take : Loading → ℕ → Loading
load_take loading.Begun answer = loading.SawWrite answer
load_take (loading.SawWrite write) answer = loading.SawValue write
load_take (loading.SawValue write) answer = load_seen (answer == write) answer
load_take loading.Loaded answer = loading.Loaded

-- Whether the value is loaded.
abbrev pub load_is_over : Loading → Bool
load_is_over loading.Begun = false
load_is_over (loading.SawWrite write) = false
load_is_over (loading.SawValue write) = false
load_is_over loading.Loaded = true

-- The last three results are the position, a value, and the same position.
abbrev pub EndsUnmoved : List ℕ → Type 0
EndsUnmoved given = (before : List ℕ) × (write : ℕ) × (value : ℕ) × (given ≡ before ++ (write ∷ value ∷ write ∷ []))
