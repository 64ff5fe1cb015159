-- What the result of a call says of the steps that were made.
use Rattle.std.specs.Prelude.{ℕ, ◌≡◌, ◌+◌, ◌<◌, ◌≤◌, ◌⊎◌, Bool, true, false, if◌then◌else◌, ◌==◌, ◌||◌, Ok, Err, Option, Some, None, List}
use Rattle.std.specs.Prelude.{[]}
use Rattle.std.specs.Prelude.{◌∷◌, ◌++◌, ◌^◌, slice_index, take, drop}
use Rattle.std.specs.List.{list_any}
use Rattle.std.specs.Global.{Vec}
use Rattle.iox_container.specs.declared.error.UniqueIndexSetAcquireFailure.TheVariants.{OutOfIndices, IsLocked}
use Rattle.iox_container.specs.declared.release.ReleaseMode.TheVariants.{LockIfLastIndex, Default}
use Rattle.iox_container.specs.declared.release.ReleaseState.TheVariants.{Locked, Unlocked}
use Rattle.iox_queues_steps.specs.declared.access.Access.{Access}
use Rattle.iox_queues_steps.specs.declared.access.Access.TheVariants.{Load, Store, Exchange, Local}
use Rattle.iox_queues_steps.specs.declared.access.Word.TheVariants.{Write, Read, Cell}
use Rattle.iox_queues.specs.Recorded.{LiesWithin, local_step}
use Rattle.iox_queues.specs.Told.{own}
use Rattle.iox_queues.specs.declared.bits.machine.Event.{Event}
use Rattle.iox_robust_steps.specs.Steps.{call_begun, call_next, call_take, decided, lock_mark, reserved}
use Rattle.iox_robust_steps.specs.Changes.{named_after, saw_filled, saw_other, times_given, times_taken, took_by}
use Rattle.iox_robust_steps.specs.declared.call.Answer.{Answer}
use Rattle.iox_robust_steps.specs.declared.call.Answer.TheVariants.{Acquired, Settled}
use Rattle.iox_robust_steps.specs.declared.call.Call.{Call}
use Rattle.iox_robust_steps.specs.declared.call.Call.TheVariants as call
use Rattle.iox_robust_steps.specs.declared.call.RobustCall.{RobustCall}
use Rattle.iox_robust_steps.specs.declared.call.RobustCall.TheVariants as stage
use Rattle.iox_robust_steps.specs.declared.machine.Finished.{Finished}

-- From one stage to another, each step made the access that its stage requests, and the next stage took its result; a step insisted only if
-- it may.
abbrev pub SetGoes : ℕ → List (Vec Bool) → Bool → RobustCall → List Event → RobustCall → Type 0
SetGoes n decisions may stage [] end = end ≡ stage
SetGoes n decisions may stage (event ∷ events) end =
    (event.access ≡ call_next stage) × (insists : Bool) × (insists ≡ true → may ≡ true)
    × SetGoes n decisions may (call_take n decisions insists stage event.answer) events end

-- The steps of a call up to a stage, in a set of `n` indices: a local one that begins it, and the accesses that the call requested.
pub record IsAsked (n : ℕ) (decisions : List (Vec Bool)) (may : Bool) (party : ℕ) (c : Call) (stage : RobustCall) (events : List Event)
    : Type 0 where
  pub between : List Event
  pub whole : events ≡ local_step party ∷ between
  pub goes : SetGoes n decisions may (call_begun n c) between stage

-- The steps of the call in progress, if there is one, up to its stage.
abbrev pub IsAskedSoFar : ℕ → List (Vec Bool) → Bool → ℕ → Option Call → RobustCall → List Event → Type 0
IsAskedSoFar n decisions may party None stage events = Unit {0}
IsAskedSoFar n decisions may party (Some c) stage events = IsAsked n decisions may party c stage events

-- The steps of each finished call, up to its result.
abbrev pub AreAsked : ℕ → List (Vec Bool) → Bool → List Event → List Finished → Type 0
AreAsked n decisions may events [] = Unit {0}
AreAsked n decisions may events (f ∷ finished) =
    IsAsked n decisions may f.party f.call (stage.Done f.call f.answer) (own f.party (drop f.first (take f.last events)))
    × AreAsked n decisions may events finished

-- Each of these calls lies within the steps made.
abbrev pub LieWithin : List Event → List Finished → Type 0
LieWithin events [] = Unit {0}
LieWithin events (f ∷ finished) = LiesWithin events f.first f.last × LieWithin events finished

-- The steps took no index.
abbrev pub TakeNone : List Event → Type 0
TakeNone events = (j : ℕ) → times_taken j events ≡ 0

-- The steps released no index.
abbrev pub GiveNone : List Event → Type 0
GiveNone events = (j : ℕ) → times_given j events ≡ 0

-- The steps took no index, and released none.
abbrev pub MoveNone : List Event → Type 0
MoveNone events = TakeNone events × GiveNone events

-- The steps took index `i` once and no other index, and released none.
abbrev pub TakeOnly : ℕ → List Event → Type 0
TakeOnly i events = ((j : ℕ) → times_taken j events ≡ (if i == j then 1 else 0)) × GiveNone events

-- The steps released index `i` once and no other index, and took none.
abbrev pub GiveOnly : ℕ → List Event → Type 0
GiveOnly i events = TakeNone events × ((j : ℕ) → times_given j events ≡ (if i == j then 1 else 0))

-- Acquires and releases of index `i` alternate: it was taken as often as released, or once more.
abbrev pub TakesTurns : ℕ → List Event → Type 0
TakesTurns i events = (times_given i events ≤ times_taken i events) × (times_taken i events ≤ times_given i events + 1)

-- The party holds index `i`: it took the index, and since then nobody released it.
pub record Holds (party i : ℕ) (events : List Event) : Type 0 where
  pub before : List Event
  pub taking : Event
  pub after : List Event
  pub whole : events ≡ before ++ taking ∷ after
  pub its : taking.party ≡ party
  pub takes : took_by i taking.access ≡ 1
  pub keeps : times_given i after ≡ 0

-- The steps saw the cell of each of `n` indices filled.
abbrev pub SawEachFilled : ℕ → List Event → Type 0
SawEachFilled n events = (i : ℕ) → i < n → list_any (saw_filled i) events ≡ true

-- The last of these steps saw that an index is held or about to be.
pub record SawOther (n : ℕ) (events : List Event) : Type 0 where
  pub before : List Event
  pub look : Event
  pub whole : events ≡ before ++ look ∷ []
  pub saw : saw_other n look.access look.answer ≡ true

-- A step of a recovery changes no cell, unless it empties the cell of an index that it may free and that its owner holds or is about to
-- take; and it changes the count only to lock the set.
abbrev pub FreesSo : List (Vec Bool) → Bool → ℕ → ℕ → Access → Type 0
FreesSo decisions may owner number (Load word) = Unit {0}
FreesSo decisions may owner number (Store word value) = ⊥
FreesSo decisions may owner number (Exchange Write old new) = ⊥
FreesSo decisions may owner number (Exchange Read old new) = new ≡ lock_mark
FreesSo decisions may owner number (Exchange (Cell place) old new) =
    ((decided decisions number place ≡ true) ⊎ (may ≡ true)) × ((old ≡ owner) ⊎ (old ≡ reserved owner)) × (new ≡ 0)
FreesSo decisions may owner number Local = Unit {0}

-- Each of these steps is one that a recovery may make.
abbrev pub FreeOnly : List (Vec Bool) → Bool → ℕ → ℕ → List Event → Type 0
FreeOnly decisions may owner number [] = Unit {0}
FreeOnly decisions may owner number (event ∷ events) =
    FreesSo decisions may owner number event.access × FreeOnly decisions may owner number events

-- If the call is a recovery, each of its steps is one that it may make.
abbrev pub FreesItsOwn : List (Vec Bool) → Bool → Call → List Event → Type 0
FreesItsOwn decisions may (call.Acquire owner) events = Unit {0}
FreesItsOwn decisions may (call.Release owner i mode) events = Unit {0}
FreesItsOwn decisions may (call.Recover owner number mode) events = FreeOnly decisions may owner number events

-- The steps of each recovery among these calls are ones that it may make.
abbrev pub EachFreesItsOwn : List (Vec Bool) → Bool → List Event → List Finished → Type 0
EachFreesItsOwn decisions may events [] = Unit {0}
EachFreesItsOwn decisions may events (f ∷ finished) =
    FreesItsOwn decisions may f.call (own f.party (drop f.first (take f.last events))) × EachFreesItsOwn decisions may events finished

-- What the result of a call says of its own steps. An acquire that took an index took exactly that one, and stored its owner in the cell. A
-- refused acquire did nothing, and saw each cell filled, or the set is locked. A release freed exactly its index, and a recovery took none.
-- Only a call that was to lock the set reports that the set is locked, which is so; if it reports that the set isn't locked, it saw another
-- index held or about to be.
abbrev pub Tells : ℕ → Bool → List Event → Call → Answer → Type 0
Tells n locked events (call.Acquire owner) (Acquired (Ok i)) = (i < n) × TakeOnly i events × (named_after i 0 events ≡ owner)
Tells n locked events (call.Acquire owner) (Acquired (Err OutOfIndices)) = MoveNone events × SawEachFilled n events
Tells n locked events (call.Acquire owner) (Acquired (Err IsLocked)) = MoveNone events × (locked ≡ true)
Tells n locked events (call.Acquire owner) (Settled state) = ⊥
Tells n locked events (call.Release owner i mode) (Acquired got) = ⊥
Tells n locked events (call.Release owner i LockIfLastIndex) (Settled Locked) = GiveOnly i events × (locked ≡ true)
Tells n locked events (call.Release owner i Default) (Settled Locked) = ⊥
Tells n locked events (call.Release owner i LockIfLastIndex) (Settled Unlocked) = GiveOnly i events × SawOther n events
Tells n locked events (call.Release owner i Default) (Settled Unlocked) = GiveOnly i events
Tells n locked events (call.Recover owner number mode) (Acquired got) = ⊥
Tells n locked events (call.Recover owner number LockIfLastIndex) (Settled Locked) = TakeNone events × (locked ≡ true)
Tells n locked events (call.Recover owner number Default) (Settled Locked) = ⊥
Tells n locked events (call.Recover owner number LockIfLastIndex) (Settled Unlocked) = TakeNone events × SawOther n events
Tells n locked events (call.Recover owner number Default) (Settled Unlocked) = TakeNone events

-- Each of these finished calls did what its result says.
abbrev pub AreTold : ℕ → Bool → List Event → List Finished → Type 0
AreTold n locked events [] = Unit {0}
AreTold n locked events (f ∷ finished) =
    Tells n locked (own f.party (drop f.first (take f.last events))) f.call f.answer × AreTold n locked events finished

-- Whether the call was to lock the set, and reports that it is locked.
abbrev pub has_locked : Call → Answer → Bool
has_locked (call.Release owner index LockIfLastIndex) (Settled Locked) = true
has_locked (call.Recover owner number LockIfLastIndex) (Settled Locked) = true
has_locked other answer = false

-- Whether one of these calls was to lock the set, and reports that it is locked.
abbrev pub some_has_locked : List Finished → Bool
some_has_locked [] = false
some_has_locked (f ∷ finished) = has_locked f.call f.answer || some_has_locked finished

-- Whether a call in progress was to lock the set, and has the result that it is locked.
abbrev pub is_locking : RobustCall → Bool
is_locking stage.Idle = false
is_locking (stage.Acquire owner) = false
is_locking (stage.Claim owner place count) = false
is_locking (stage.Count owner place count) = false
is_locking (stage.Confirm owner place) = false
is_locking (stage.Undo owner place) = false
is_locking (stage.Free owner index mode) = false
is_locking (stage.Look owner number mode place) = false
is_locking (stage.Clear owner number mode place seen) = false
is_locking (stage.Settle c) = false
is_locking (stage.Scan c place count) = false
is_locking (stage.Lock c count) = false
is_locking (stage.Done c answer) = has_locked c answer

-- The recovery of this owner began, and among the first `m` indices, the cell of none that the decisions select names the owner or shows
-- that the owner is about to take the index.
abbrev pub FreedBelow : List (Vec Bool) → List ℕ → List ℕ → ℕ → ℕ → ℕ → Type 0
FreedBelow decisions lost cells owner number m =
    (0 < owner) × (owner < 2 ^ 63) × (list_any (λ (other : ℕ). other == owner) lost ≡ true)
    × ((j : ℕ) → j < m → decided decisions number j ≡ true
    → (slice_index cells j ≡ owner → ⊥) × (slice_index cells j ≡ reserved owner → ⊥))

-- If the call is a recovery, it left its owner no selected index, for good.
abbrev pub FreedBy : List (Vec Bool) → List ℕ → List ℕ → ℕ → Call → Type 0
FreedBy decisions lost cells n (call.Acquire owner) = Unit {0}
FreedBy decisions lost cells n (call.Release owner i mode) = Unit {0}
FreedBy decisions lost cells n (call.Recover owner number mode) = FreedBelow decisions lost cells owner number n

-- Each of these recoveries left its owner no selected index.
abbrev pub AreFreed : List (Vec Bool) → List ℕ → List ℕ → ℕ → List Finished → Type 0
AreFreed decisions lost cells n [] = Unit {0}
AreFreed decisions lost cells n (f ∷ finished) =
    FreedBy decisions lost cells n f.call × AreFreed decisions lost cells n finished
