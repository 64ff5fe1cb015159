-- What the result of a call says of the steps that were made.
use Rattle.std.specs.Prelude.{ℕ, ◌≡◌, ◌+◌, ◌<◌, ◌≤◌, ◌^◌, Bool, true, false, if◌then◌else◌, ◌==◌, ◌||◌, Ok, Err, List, []}
use Rattle.std.specs.Prelude.{◌∷◌, ◌++◌, length, take, drop}
use Rattle.iox_container.specs.declared.error.UniqueIndexSetAcquireFailure.TheVariants.{OutOfIndices, IsLocked}
use Rattle.iox_container.specs.declared.release.ReleaseMode.TheVariants.{LockIfLastIndex, Default}
use Rattle.iox_container.specs.declared.release.ReleaseState.TheVariants.{Locked, Unlocked}
use Rattle.iox_queues.specs.Recorded.{IsAskedFrom, LiesWithin}
use Rattle.iox_queues.specs.Told.{own}
use Rattle.iox_queues.specs.declared.bits.machine.Event.{Event}
use Rattle.iox_index_steps.specs.Steps.{call_begun, call_next, call_take}
use Rattle.iox_index_steps.specs.Changes.{gave_by, head_changes, times_taken, times_given, sees_head}
use Rattle.iox_index_steps.specs.declared.call.Answer.{Answer}
use Rattle.iox_index_steps.specs.declared.call.Answer.TheVariants.{Acquired, Released}
use Rattle.iox_index_steps.specs.declared.call.Call.{Call}
use Rattle.iox_index_steps.specs.declared.call.Call.TheVariants as call
use Rattle.iox_index_steps.specs.declared.call.IndexCall.{IndexCall}
use Rattle.iox_index_steps.specs.declared.call.IndexCall.TheVariants.{Idle, Acquire, Follow, Take, Release, Link, Give, Done}
use Rattle.iox_index_steps.specs.declared.machine.Finished.{Finished}

-- The steps of a call up to a stage: a local one that begins it, and the accesses that the call requested.
abbrev pub IsAsked : ℕ → ℕ → Call → IndexCall → List Event → Type 0
IsAsked n party c stage events = IsAskedFrom IndexCall call_next call_take party (call_begun n c) stage events

-- The steps of a call in progress, up to its stage.
abbrev pub IsAskedSoFar : ℕ → ℕ → IndexCall → List Event → Type 0
IsAskedSoFar n party Idle events = Unit {0}
IsAskedSoFar n party (Acquire capacity) events = IsAsked n party call.Acquire (Acquire capacity) events
IsAskedSoFar n party (Follow capacity word) events = IsAsked n party call.Acquire (Follow capacity word) events
IsAskedSoFar n party (Take capacity word next) events = IsAsked n party call.Acquire (Take capacity word next) events
IsAskedSoFar n party (Release i mode) events = IsAsked n party (call.Release i mode) (Release i mode) events
IsAskedSoFar n party (Link i mode word) events = IsAsked n party (call.Release i mode) (Link i mode word) events
IsAskedSoFar n party (Give i mode word) events = IsAsked n party (call.Release i mode) (Give i mode word) events
IsAskedSoFar n party (Done c answer) events = IsAsked n party c (Done c answer) events

-- The steps of each finished call, up to its result.
abbrev pub AreAsked : ℕ → List Event → List Finished → Type 0
AreAsked n events [] = Unit {0}
AreAsked n events (f ∷ finished) =
    IsAsked n f.party f.call (Done f.call f.answer) (own f.party (drop f.first (take f.last events))) × AreAsked n events finished

-- The steps took index `i` once and no other index, and released none.
abbrev pub TakeOnly : ℕ → List Event → Type 0
TakeOnly i events =
    ((j : ℕ) → times_taken j events ≡ (if i == j then 1 else 0)) × ((j : ℕ) → times_given j events ≡ 0)

-- The steps released index `i` once and no other index, and took none.
abbrev pub GiveOnly : ℕ → List Event → Type 0
GiveOnly i events =
    ((j : ℕ) → times_taken j events ≡ 0) × ((j : ℕ) → times_given j events ≡ (if i == j then 1 else 0))

-- The steps took no index, and released none.
abbrev pub MoveNone : List Event → Type 0
MoveNone events = ((j : ℕ) → times_taken j events ≡ 0) × ((j : ℕ) → times_given j events ≡ 0)

-- Acquires and releases of index `i` alternate: it was taken as often as released, or once more.
abbrev pub TakesTurns : ℕ → List Event → Type 0
TakesTurns i events =
    (times_given i events ≤ times_taken i events) × (times_taken i events ≤ times_given i events + 1)

-- When the party last read the head, each of `n` indices was taken: it had been taken once more often than released. From its acquire
-- to its release, an index is being taken, held, or being released.
pub record SawAllOut (n party first : ℕ) (events : List Event) : Type 0 where
  pub before : List Event
  pub look : Event
  pub after : List Event
  pub whole : events ≡ before ++ look ∷ after
  pub inside : first ≤ length before
  pub its : look.party ≡ party
  pub looks : sees_head look.access ≡ true
  pub last : own party after ≡ []
  pub out : (i : ℕ) → i < n → times_taken i before ≡ times_given i before + 1

-- When a call of the party released index `i`, another index was taken.
pub record GaveBeside (i party first : ℕ) (events : List Event) : Type 0 where
  pub before : List Event
  pub give : Event
  pub after : List Event
  pub whole : events ≡ before ++ give ∷ after
  pub inside : first ≤ length before
  pub its : give.party ≡ party
  pub gives : gave_by i give.access give.answer ≡ 1
  pub other : ℕ
  pub differs : other ≡ i → ⊥
  pub out : times_taken other before ≡ times_given other before + 1

-- What the result of a call says, which the party began with the step `first`. A call that took or released an index did exactly that. A
-- refused call did nothing, and every index was taken, or the set is locked. A release that was to lock the set left it locked, or another
-- index was taken; a release that wasn't to lock the set doesn't report it as locked.
abbrev pub Tells : ℕ → Bool → ℕ → ℕ → List Event → Call → Answer → Type 0
Tells n locked party first events call.Acquire (Acquired (Ok i)) = (i < n) × TakeOnly i (own party (drop first events))
Tells n locked party first events call.Acquire (Acquired (Err OutOfIndices)) =
    MoveNone (own party (drop first events)) × SawAllOut n party first events
Tells n locked party first events call.Acquire (Acquired (Err IsLocked)) =
    MoveNone (own party (drop first events)) × (locked ≡ true)
Tells n locked party first events call.Acquire (Released state) = ⊥
Tells n locked party first events (call.Release i mode) (Acquired got) = ⊥
Tells n locked party first events (call.Release i LockIfLastIndex) (Released Locked) =
    GiveOnly i (own party (drop first events)) × (locked ≡ true)
Tells n locked party first events (call.Release i LockIfLastIndex) (Released Unlocked) =
    GiveOnly i (own party (drop first events)) × GaveBeside i party first events
Tells n locked party first events (call.Release i Default) (Released Locked) = ⊥
Tells n locked party first events (call.Release i Default) (Released Unlocked) =
    GiveOnly i (own party (drop first events))

-- Whether the call is a release that was to lock the set and has the result that it did.
abbrev pub has_locked : Call → Answer → Bool
has_locked (call.Release index LockIfLastIndex) (Released Locked) = true
has_locked other answer = false

-- Whether one of these calls is a release that was to lock the set and did.
abbrev pub some_has_locked : List Finished → Bool
some_has_locked [] = false
some_has_locked (f ∷ finished) = has_locked f.call f.answer || some_has_locked finished

-- Whether a call in progress is a release that was to lock the set, and has the result that it did.
abbrev pub is_locking : IndexCall → Bool
is_locking Idle = false
is_locking (Acquire capacity) = false
is_locking (Follow capacity word) = false
is_locking (Take capacity word next) = false
is_locking (Release index mode) = false
is_locking (Link index mode word) = false
is_locking (Give index mode word) = false
is_locking (Done c answer) = has_locked c answer

-- Each of these calls lies within the steps made.
abbrev pub LieWithin : List Event → List Finished → Type 0
LieWithin events [] = Unit {0}
LieWithin events (f ∷ finished) = LiesWithin events f.first f.last × LieWithin events finished

-- Each of these finished calls did what its result says.
abbrev pub AreTold : ℕ → Bool → List Event → List Finished → Type 0
AreTold n locked events [] = Unit {0}
AreTold n locked events (f ∷ finished) =
    Tells n locked f.party f.first (take f.last events) f.call f.answer × AreTold n locked events finished

-- If the call is an acquire, these steps changed the head fewer than 2^16 times; a release may meet any number of changes.
abbrev pub IsBrief : Call → List Event → Type 0
IsBrief call.Acquire events = head_changes events < 2 ^ 16
IsBrief (call.Release index mode) events = Unit {0}

-- The head changed fewer than 2^16 times within each finished acquire.
abbrev pub AreBrief : List Event → List Finished → Type 0
AreBrief events [] = Unit {0}
AreBrief events (f ∷ finished) = IsBrief f.call (drop f.first (take f.last events)) × AreBrief events finished
