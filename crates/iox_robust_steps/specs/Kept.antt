-- The invariant of each step of the machine of a set that knows the owner of each held index.
use Rattle.std.specs.Prelude.{ℕ, ◌≡◌, ◌+◌, ◌^◌, ◌<◌, ◌≤◌, ◌⊎◌, ◌==◌, Bool, true, false, List, length, slice_index, take, drop}
use Rattle.std.specs.List.{list_any}
use Rattle.std.specs.Global.{Vec}
use Rattle.iox_container.specs.declared.release.ReleaseMode.TheVariants.{LockIfLastIndex, Default}
use Rattle.iox_queues_steps.specs.Access.{RingWords}
use Rattle.iox_queues.specs.Told.{own}
use Rattle.iox_queues.specs.declared.bits.machine.Event.{Event}
use Rattle.iox_robust_steps.specs.Steps.{lock_mark, reserved}
use Rattle.iox_robust_steps.specs.Changes.{saw_filled, times_given, times_taken}
use Rattle.iox_robust_steps.specs.Told.{AreFreed, AreTold, FreedBelow, FreedBy, GiveOnly, Holds, MoveNone, TakeNone, TakesTurns, Tells}
use Rattle.iox_robust_steps.specs.Machine.{CellFits, HasFewSteps, IsLockedByRelease, IsRecorded, RobustSetState, is_locked, is_lost}
use Rattle.iox_robust_steps.specs.Machine.{one_if_held}
use Rattle.iox_robust_steps.specs.Machine.{place_of}
use Rattle.iox_robust_steps.specs.Machine.{seat_at, stage_at}
use Rattle.iox_robust_steps.specs.Named.{StandsUnder}
use Rattle.iox_robust_steps.specs.OfCalls.{StepsAreOfCalls}
use Rattle.iox_robust_steps.specs.declared.call.Call.{Call}
use Rattle.iox_robust_steps.specs.declared.call.Call.TheVariants as call
use Rattle.iox_robust_steps.specs.declared.call.RobustCall.{RobustCall}
use Rattle.iox_robust_steps.specs.declared.call.RobustCall.TheVariants as stage
use Rattle.iox_robust_steps.specs.declared.state.Place.{Place}
use Rattle.iox_robust_steps.specs.declared.state.Place.TheVariants as place

-- The index isn't held, and no party that raised the count is about to take it.
abbrev pub IsQuiet : Place → Type 0
IsQuiet place.Empty = Unit {0}
IsQuiet (place.Claimed p) = Unit {0}
IsQuiet (place.Counted p) = ⊥
IsQuiet (place.Held p) = ⊥

-- The words and the steps are consistent with the state of each index, and the holder of an index took it; in a locked set no index is held
-- or about to be; and the count of a set that isn't locked is at most the number of steps.
pub record WordsFit (n : ℕ) (words : RingWords) (places : List Place) (events : List Event) : Type 0 where
  pub cells : (i : ℕ) → i < n → CellFits (place_of places i) (slice_index words.cells i)
  pub quiet : words.read ≡ lock_mark → (i : ℕ) → i < n → IsQuiet (place_of places i)
  pub count : (words.read ≡ lock_mark) ⊎ (words.read ≤ length events)
  pub balance : (i : ℕ) → times_taken i events ≡ times_given i events + one_if_held (place_of places i)
  pub turns : (i k : ℕ) → TakesTurns i (take k events)
  pub holders : (i p : ℕ) → place_of places i ≡ place.Held p → Holds p i events

-- The number is a valid owner.
abbrev pub IsOwner : ℕ → Type 0
IsOwner owner = (0 < owner) × (owner < 2 ^ 63)

-- The index has this state and its cell this content, unless the recovery of the owner began.
abbrev pub StandsSo : RingWords → List Place → List ℕ → ℕ → ℕ → Place → ℕ → Type 0
StandsSo words places lost owner i stand cell =
    is_lost owner lost ≡ false → (place_of places i ≡ stand) × (slice_index words.cells i ≡ cell)

-- The own steps of a call that may lock the set, after it freed what it was to free.
abbrev pub Settles : Call → List Event → Type 0
Settles (call.Acquire owner) events = ⊥
Settles (call.Release owner i LockIfLastIndex) events = GiveOnly i events
Settles (call.Release owner i Default) events = ⊥
Settles (call.Recover owner number LockIfLastIndex) events = TakeNone events
Settles (call.Recover owner number Default) events = ⊥

-- While the count is what the call read, none of the first `m` indices is held or about to be.
abbrev pub QuietBelow : RingWords → List Place → ℕ → ℕ → Type 0
QuietBelow words places count m =
    (count < lock_mark) × (count ≤ words.read) × (words.read ≡ count → (j : ℕ) → j < m → IsQuiet (place_of places j))

-- What is known of a party's call at its stage, by its own steps.
abbrev pub Knows : ℕ → RingWords → List Place → List ℕ → ℕ → List Event → RobustCall → Type 0
Knows n words places lost party events stage.Idle = Unit {0}
Knows n words places lost party events (stage.Acquire owner) = IsOwner owner × MoveNone events
Knows n words places lost party events (stage.Claim owner i count) =
    IsOwner owner × MoveNone events × (i < n) × (count < lock_mark) × ((j : ℕ) → j < i → list_any (saw_filled j) events ≡ true)
Knows n words places lost party events (stage.Count owner i count) =
    IsOwner owner × MoveNone events × (i < n) × (count < lock_mark)
    × StandsSo words places lost owner i (place.Claimed party) (reserved owner)
Knows n words places lost party events (stage.Confirm owner i) =
    IsOwner owner × MoveNone events × (i < n) × StandsSo words places lost owner i (place.Counted party) (reserved owner)
Knows n words places lost party events (stage.Undo owner i) =
    IsOwner owner × MoveNone events × (i < n) × (words.read ≡ lock_mark)
    × StandsSo words places lost owner i (place.Claimed party) (reserved owner)
Knows n words places lost party events (stage.Free owner i mode) =
    IsOwner owner × MoveNone events × (i < n) × StandsSo words places lost owner i (place.Held party) owner
Knows n words places lost party events (stage.Look owner number mode i) =
    IsOwner owner × TakeNone events × (i < n) × (is_lost owner lost ≡ true)
Knows n words places lost party events (stage.Clear owner number mode i seen) =
    IsOwner owner × TakeNone events × (i < n) × (is_lost owner lost ≡ true) × ((seen ≡ owner) ⊎ (seen ≡ reserved owner))
Knows n words places lost party events (stage.Settle c) = Settles c events
Knows n words places lost party events (stage.Scan c i count) = Settles c events × (i < n) × QuietBelow words places count i
Knows n words places lost party events (stage.Lock c count) = Settles c events × QuietBelow words places count n
Knows n words places lost party events (stage.Done c answer) = Tells n (words.read == lock_mark) events c answer

-- What a recovery in progress has freed so far; if it is to free a cell, the cell still is as it was read, or doesn't belong to the owner
-- any more.
abbrev pub FreesSoFar : ℕ → List (Vec Bool) → List ℕ → List ℕ → RobustCall → Type 0
FreesSoFar n decisions lost cells stage.Idle = Unit {0}
FreesSoFar n decisions lost cells (stage.Acquire owner) = Unit {0}
FreesSoFar n decisions lost cells (stage.Claim owner i count) = Unit {0}
FreesSoFar n decisions lost cells (stage.Count owner i count) = Unit {0}
FreesSoFar n decisions lost cells (stage.Confirm owner i) = Unit {0}
FreesSoFar n decisions lost cells (stage.Undo owner i) = Unit {0}
FreesSoFar n decisions lost cells (stage.Free owner i mode) = Unit {0}
FreesSoFar n decisions lost cells (stage.Look owner number mode i) = FreedBelow decisions lost cells owner number i
FreesSoFar n decisions lost cells (stage.Clear owner number mode i seen) =
    FreedBelow decisions lost cells owner number i
    × ((slice_index cells i ≡ seen) ⊎ ((slice_index cells i ≡ owner → ⊥) × (slice_index cells i ≡ reserved owner → ⊥)))
FreesSoFar n decisions lost cells (stage.Settle c) = FreedBy decisions lost cells n c
FreesSoFar n decisions lost cells (stage.Scan c i count) = FreedBy decisions lost cells n c
FreesSoFar n decisions lost cells (stage.Lock c count) = FreedBy decisions lost cells n c
FreesSoFar n decisions lost cells (stage.Done c answer) = FreedBy decisions lost cells n c

-- If fewer than 2^64 - 1 steps were made: the words are consistent, each call in progress did what its stage says, each finished call did
-- what its result says, and each held index has the owner of the acquire that took it.
pub record IsConsistent (m : RobustSetState) : Type 0 where
  pub whole : WordsFit m.capacity m.words m.places m.events
  pub knows : (party : ℕ) → Knows m.capacity m.words m.places m.lost party (own party (drop (seat_at m.seats party).first m.events))
      (stage_at m.seats party)
  pub told : AreTold m.capacity (is_locked m) m.events m.finished
  pub named : (i p : ℕ) → place_of m.places i ≡ place.Held p
      → StandsUnder p i (slice_index m.words.cells i) (seat_at m.seats p) m.events m.finished
  pub locked_by : is_locked m ≡ true → IsLockedByRelease m
  pub frees : (party : ℕ) → FreesSoFar m.capacity m.decisions m.lost m.words.cells (stage_at m.seats party)
  pub freed : AreFreed m.decisions m.lost m.words.cells m.capacity m.finished

-- The invariant: what holds after any number of steps, and what holds after fewer than 2^64 - 1 of them.
pub record IsKept (m : RobustSetState) : Type 0 where
  pub small : m.capacity < 2 ^ 62
  pub cells : length m.words.cells ≡ m.capacity + 1
  pub places : length m.places ≡ m.capacity
  pub began : (party : ℕ) → (seat_at m.seats party).first ≤ length m.events
  pub recorded : IsRecorded m
  pub counted : StepsAreOfCalls m
  pub sound : HasFewSteps m → IsConsistent m
