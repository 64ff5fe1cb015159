-- What the steps on a single value make current, and what the result of a call says of them.
use Rattle.std.specs.Prelude.{ℕ, ◌≡◌, ◌+◌, ◌<◌, ◌≤◌, Option, Some, None, List, [], ◌∷◌, ◌++◌, length, take, drop}
use Rattle.std.specs.Global.{Vec}
use Rattle.iox_queues_steps.specs.declared.access.Word.TheVariants.{Write, Read, Cell}
use Rattle.iox_queues_steps.specs.declared.access.Access.{Access}
use Rattle.iox_queues_steps.specs.declared.access.Access.TheVariants.{Load, Store, Exchange, Local}
use Rattle.iox_queues.specs.Told.{own}
use Rattle.iox_queues.specs.declared.bits.machine.Event.{Event}
use Rattle.iox_queues.specs.Recorded.{IsAskedFrom}
use Rattle.iox_index_steps.specs.AtomicSteps.{call_begun, call_next, call_take}
use Rattle.iox_queues.specs.Values.{table_value}
use Rattle.iox_index_steps.specs.declared.atomic.call.AtomicCall.{AtomicCall}
use Rattle.iox_index_steps.specs.declared.atomic.call.AtomicCall.TheVariants as stage
use Rattle.iox_index_steps.specs.declared.atomic.call.Call.{Call}
use Rattle.iox_index_steps.specs.declared.atomic.call.Call.TheVariants as call
use Rattle.iox_index_steps.specs.declared.atomic.Finished.{Finished}

-- Whether the step moved the counter, as 1 or 0; at this moment a store takes effect.
abbrev pub moved_by : Access → ℕ
moved_by (Load word) = 0
moved_by (Store Write value) = 1
moved_by (Store Read value) = 0
moved_by (Store (Cell position) value) = 0
moved_by (Exchange word old new) = 0
moved_by Local = 0

-- The words stored in cells since the last move of the counter, in their order, after this access.
abbrev pub put_by : Access → List ℕ → List ℕ
put_by (Load word) put = put
put_by (Store Write value) put = []
put_by (Store Read value) put = put
put_by (Store (Cell position) value) put = put ++ value ∷ []
put_by (Exchange word old new) put = put
put_by Local put = put

-- The current words after this access: when the counter moves, they become the words stored since the last move.
abbrev pub current_by : Access → List ℕ → List ℕ → List ℕ
current_by (Load word) put current = current
current_by (Store Write value) put current = put
current_by (Store Read value) put current = current
current_by (Store (Cell position) value) put current = current
current_by (Exchange word old new) put current = current
current_by Local put current = current

-- How many stores took effect.
abbrev pub times_moved : List Event → ℕ
times_moved [] = 0
times_moved (event ∷ events) = moved_by event.access + times_moved events

-- The words stored since the last move of the counter, after these further steps.
abbrev pub put_after : List ℕ → List Event → List ℕ
put_after put [] = put
put_after put (event ∷ events) = put_after (put_by event.access put) events

-- The current words, after these further steps.
abbrev pub current_after : List ℕ → List ℕ → List Event → List ℕ
current_after put current [] = current
current_after put current (event ∷ events) =
    current_after (put_by event.access put) (current_by event.access put current) events

-- The current words after all steps: those stored before the last move of the counter, or the first words.
abbrev pub current_of : List ℕ → List Event → List ℕ
current_of initial events = current_after [] initial events

-- A step of the party since its begin made these words current, and was the party's last one so far.
pub record MadeCurrent (initial : List ℕ) (party first : ℕ) (words : List ℕ) (events : List Event) : Type 0 where
  pub before : List Event
  pub moment : Event
  pub after : List Event
  pub whole : events ≡ before ++ moment ∷ after
  pub inside : first ≤ length before
  pub its : moment.party ≡ party
  pub moves : moved_by moment.access ≡ 1
  pub makes : current_of initial (before ++ moment ∷ []) ≡ words
  pub last : own party after ≡ []

-- The words that a party loaded from cells since it last read the counter, after this access.
abbrev pub found_by : Access → ℕ → List ℕ → List ℕ
found_by (Load Write) answer found = []
found_by (Load Read) answer found = found
found_by (Load (Cell position)) answer found = found ++ answer ∷ []
found_by (Store word value) answer found = found
found_by (Exchange word old new) answer found = found
found_by Local answer found = found

-- The words that a party loaded since it last read the counter, after these further steps of its own.
abbrev pub found_after : List ℕ → List Event → List ℕ
found_after found [] = found
found_after found (event ∷ events) = found_after (found_by event.access event.answer found) events

-- When the party last read the counter, the words that it had loaded since the read before were current.
pub record SawCurrent (initial : List ℕ) (party first : ℕ) (events : List Event) : Type 0 where
  pub before : List Event
  pub look : Event
  pub after : List Event
  pub whole : events ≡ before ++ look ∷ after
  pub inside : first ≤ length before
  pub its : look.party ≡ party
  pub looks : look.access ≡ Load Write
  pub sees : found_after [] (own party (drop first before)) ≡ current_of initial before
  pub last : own party after ≡ []

-- What holds of a call that made all its accesses, which the party began with the step `first`: a store made its words current; a load
-- found the words that were current when it last read the counter.
abbrev pub Tells : List (Vec ℕ) → ℕ → ℕ → List Event → Call → Type 0
Tells values party first events (call.Store number) =
    MadeCurrent (table_value values 0) party first (table_value values number) events
Tells values party first events call.Load = SawCurrent (table_value values 0) party first events

-- Each finished call did what `Tells` says of it.
abbrev pub AreTold : List (Vec ℕ) → List Event → List Finished → Type 0
AreTold values events [] = Unit {0}
AreTold values events (f ∷ finished) =
    Tells values f.party f.first (take f.last events) f.call × AreTold values events finished

-- A finished call lies within the steps made.
pub record LiesWithin (events : List Event) (f : Finished) : Type 0 where
  pub begun : f.first ≤ f.last
  pub ended : f.last < length events

-- Each of these calls lies within the steps made.
abbrev pub LieWithin : List Event → List Finished → Type 0
LieWithin events [] = Unit {0}
LieWithin events (f ∷ finished) = LiesWithin events f × LieWithin events finished

-- How often a call moves the counter: a store once, a load never.
abbrev pub moves_of : Call → ℕ
moves_of (call.Store number) = 1
moves_of call.Load = 0

-- The steps of each finished call moved the counter as often as the call must.
abbrev pub MoveEach : List Event → List Finished → Type 0
MoveEach events [] = Unit {0}
MoveEach events (f ∷ finished) =
    (times_moved (own f.party (drop f.first (take f.last events))) ≡ moves_of f.call) × MoveEach events finished

-- The steps of a call up to a stage, where values have `n` words: a local one that begins it, and the accesses that the call requested.
abbrev pub IsAsked : ℕ → List (Vec ℕ) → ℕ → Call → AtomicCall → List Event → Type 0
IsAsked n values party c stage events =
    IsAskedFrom AtomicCall (call_next n values) (call_take n) party (call_begun c) stage events

-- The call that a party has in progress, if any.
abbrev pub call_in_hand : AtomicCall → Option Call
call_in_hand stage.Idle = None
call_in_hand (stage.Store number) = Some (call.Store number)
call_in_hand (stage.Fill number counter next) = Some (call.Store number)
call_in_hand stage.Load = Some call.Load
call_in_hand (stage.Gather counter next) = Some call.Load
call_in_hand (stage.Done c) = Some c

-- The steps of the call in progress, if there is one, up to its stage.
abbrev pub IsAskedSoFar : ℕ → List (Vec ℕ) → ℕ → Option Call → AtomicCall → List Event → Type 0
IsAskedSoFar n values party None stage events = Unit {0}
IsAskedSoFar n values party (Some c) stage events = IsAsked n values party c stage events

-- The steps of each finished call, up to its last one.
abbrev pub AreAsked : ℕ → List (Vec ℕ) → List Event → List Finished → Type 0
AreAsked n values events [] = Unit {0}
AreAsked n values events (f ∷ finished) =
    IsAsked n values f.party f.call (stage.Done f.call) (own f.party (drop f.first (take f.last events)))
    × AreAsked n values events finished
