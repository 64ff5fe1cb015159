-- The invariant of each step of a single value's machine.
use Rattle.std.specs.Prelude.{ℕ, ◌≡◌, ◌+◌, ◌<◌, ◌≤◌, ◌⊎◌, not, Option, Some, None, List, [], length, slice_index, take, drop}
use Rattle.std.specs.Global.{Vec}
use Rattle.iox_queues_steps.specs.Access.{RingWords}
use Rattle.iox_queues.specs.Told.{own}
use Rattle.iox_queues.specs.declared.bits.machine.Event.{Event}
use Rattle.iox_index_steps.specs.AtomicSteps.{fills_second, place}
use Rattle.iox_queues.specs.Values.{table_value}
use Rattle.iox_index_steps.specs.AtomicTold.{AreTold, Tells, current_of, found_after, times_moved, put_after}
use Rattle.iox_index_steps.specs.AtomicMachine.{AtomicState, HasFewStores, IsRecorded, IsStored, StepsAreOfCalls, initial_of, seat_at}
use Rattle.iox_index_steps.specs.AtomicMachine.{stage_at, width_of}
use Rattle.iox_index_steps.specs.declared.atomic.call.Call.{Call}
use Rattle.iox_index_steps.specs.declared.atomic.call.Call.TheVariants as call
use Rattle.iox_index_steps.specs.declared.atomic.call.AtomicCall.{AtomicCall}
use Rattle.iox_index_steps.specs.declared.atomic.call.AtomicCall.TheVariants as stage

-- The shared words are consistent with the steps: the counter counts its moves from 1 on, the half that loads read holds the `n` current
-- words, and the other half holds the words that were stored since.
pub record HalvesFit (n : ℕ) (words : RingWords) (current put : List ℕ) (moved : ℕ) : Type 0 where
  pub counter : words.write ≡ moved + 1
  pub wide : length current ≡ n
  pub few : length put ≤ n
  pub shows : (i : ℕ) → i < n → slice_index words.cells (place n (not (fills_second words.write)) i) ≡ slice_index current i
  pub filled : (i : ℕ) → i < length put → slice_index words.cells (place n (fills_second words.write) i) ≡ slice_index put i

-- For a store: the party's store is the one in progress, and none of its words waits to become current. For a load: nothing.
abbrev pub HoldsNone : Option ℕ → List ℕ → ℕ → Call → Type 0
HoldsNone producer put party (call.Store number) = (producer ≡ Some party) × (put ≡ [])
HoldsNone producer put party call.Load = Unit {0}

-- What is known of a call at its stage, which the party began with the step `first`: a store is the only one in progress, and the words
-- stored since the last move are the first ones of its value; a load found the first current words, unless the counter moved since it was
-- read.
abbrev pub Knows : List (Vec ℕ) → ℕ → Option ℕ → List Event → ℕ → ℕ → AtomicCall → Type 0
Knows values write producer events party first stage.Idle = Unit {0}
Knows values write producer events party first (stage.Store number) =
    (length (table_value values number) ≡ length (table_value values 0)) × (producer ≡ Some party) × (put_after [] events ≡ [])
Knows values write producer events party first (stage.Fill number counter next) =
    (length (table_value values number) ≡ length (table_value values 0)) × (producer ≡ Some party)
    × (put_after [] events ≡ take next (table_value values number)) × (counter ≡ write) × (next ≤ length (table_value values 0))
Knows values write producer events party first stage.Load = Unit {0}
Knows values write producer events party first (stage.Gather counter next) =
    (length (found_after [] (own party (drop first events))) ≡ next) × (next ≤ length (table_value values 0)) × (counter ≤ write)
    × (counter ≡ write → (i : ℕ) → i < next
    → slice_index (found_after [] (own party (drop first events))) i ≡ slice_index (current_of (table_value values 0) events) i)
Knows values write producer events party first (stage.Done c) =
    HoldsNone producer (put_after [] events) party c × Tells values party first events c

-- As long as the counter moved fewer than 2^64 - 1 times: the words are consistent, no word waits while no store is in progress, each call
-- did what its stage says, and each finished call did what it was asked for.
pub record IsConsistent (m : AtomicState) : Type 0 where
  pub fit : HalvesFit (width_of m) m.words (current_of (initial_of m) m.events) (put_after [] m.events) (times_moved m.events)
  pub rest : m.producer ≡ None → put_after [] m.events ≡ []
  pub knows : (party : ℕ)
      → Knows m.values m.words.write m.producer m.events party (seat_at m.seats party).first (stage_at m.seats party)
  pub told : AreTold m.values m.events m.finished
  pub whole : (k : ℕ) → (current_of (initial_of m) (take k m.events) ≡ initial_of m)
      ⊎ IsStored m (current_of (initial_of m) (take k m.events))

-- The invariant: what holds after any number of stores, and what holds after fewer than 2^64 - 1 of them.
pub record IsKept (m : AtomicState) : Type 0 where
  pub size : length m.words.cells ≡ width_of m + (width_of m + 1)
  pub began : (party : ℕ) → (seat_at m.seats party).first ≤ length m.events
  pub recorded : IsRecorded m
  pub counted : StepsAreOfCalls m
  pub sound : HasFewStores m → IsConsistent m
