-- The invariant of each step of an index set's machine.
use Rattle.std.specs.Prelude.{ℕ, ◌≡◌, ◌+◌, ◌%◌, ◌^◌, ◌<◌, ◌≤◌, ◌⊎◌, if◌then◌else◌, ◌==◌, Option, Some, None, List, [], ◌∷◌, length}
use Rattle.std.specs.Prelude.{true, slice_index, take, drop}
use Rattle.iox_queues_steps.specs.Access.{RingWords}
use Rattle.iox_container.specs.Head.{head_of_word}
use Rattle.iox_queues.specs.Told.{own}
use Rattle.iox_queues.specs.declared.bits.machine.Event.{Event}
use Rattle.iox_index_steps.specs.Steps.{next_free, borrowed_count, lock_mark, is_locked_by}
use Rattle.iox_index_steps.specs.Changes.{head_changes, times_taken, times_given}
use Rattle.iox_index_steps.specs.Told.{AreTold, MoveNone, TakesTurns, Tells}
use Rattle.iox_index_steps.specs.Machine.{IndexSetState, HasFewChanges, IsLockedByRelease, IsRecorded, is_locked, one_if_holder, seat_at}
use Rattle.iox_index_steps.specs.Machine.{stage_at, holder_of}
use Rattle.iox_index_steps.specs.OfCalls.{StepsAreOfCalls}
use Rattle.iox_index_steps.specs.declared.call.IndexCall.{IndexCall}
use Rattle.iox_index_steps.specs.declared.call.IndexCall.TheVariants.{Idle, Acquire, Follow, Take, Release, Link, Give, Done}

-- From this index the cells lead through these indices, and end at `n`.
abbrev pub LeadsThrough : ℕ → List ℕ → ℕ → List ℕ → Type 0
LeadsThrough n cells index [] = index ≡ n
LeadsThrough n cells index (i ∷ free) = (index ≡ i) × (i < n) × LeadsThrough n cells (slice_index cells i) free

-- How often an index occurs among these.
abbrev pub times_among : ℕ → List ℕ → ℕ
times_among index [] = 0
times_among index (i ∷ indices) = (if i == index then 1 else 0) + times_among index indices

-- 1 if a party took the index, else 0.
abbrev pub one_if_taken : Option ℕ → ℕ
one_if_taken None = 0
one_if_taken (Some party) = 1

-- How many indices are taken.
abbrev pub count_taken : List (Option ℕ) → ℕ
count_taken [] = 0
count_taken (holder ∷ holders) = one_if_taken holder + count_taken holders

-- The words, the holders and the steps are consistent. From the head the cells lead through the free indices, each of them once; an index
-- is either free or taken. The head counts its changes, and the taken indices (or it is marked as locked, and none is taken). The steps
-- took each taken index once more often than they released it, and so did the steps of each party for the indices that it holds.
pub record WordsFit (words : RingWords) (holders : List (Option ℕ)) (events : List Event) : Type 0 where
  pub free : List ℕ
  pub leads : LeadsThrough (length words.cells) words.cells (next_free words.read) free
  pub once : (i : ℕ) → i < length words.cells → times_among i free + one_if_taken (holder_of holders i) ≡ 1
  pub changes : (head_of_word words.read).aba ≡ head_changes events % 2 ^ 16
  pub counts : (borrowed_count words.read ≡ count_taken holders)
      ⊎ ((borrowed_count words.read ≡ lock_mark) × (count_taken holders ≡ 0))
  pub taken : (i : ℕ) → times_taken i events ≡ times_given i events + one_if_taken (holder_of holders i)
  pub each : (party i : ℕ) → times_taken i (own party events) ≡ times_given i (own party events) + one_if_holder party (holder_of holders i)
  pub turns : (i k : ℕ) → TakesTurns i (take k events)

-- An acquire read this head, which changed `since` times afterwards: the head names an index, isn't marked as locked, and is still the
-- current one if nothing changed.
pub record Looked (words : RingWords) (events : List Event) (first : ℕ) (word : ℕ) : Type 0 where
  pub before : ℕ
  pub since : ℕ
  pub whole : before + since ≡ head_changes events
  pub few : since ≤ head_changes (drop first events)
  pub seen : (head_of_word word).aba ≡ before % 2 ^ 16
  pub there : next_free word < length words.cells
  pub unmarked : borrowed_count word ≡ lock_mark → ⊥
  pub still : since ≡ 0 → words.read ≡ word

-- The party took the index, and didn't release it.
abbrev pub HoldsIndex : List (Option ℕ) → ℕ → ℕ → Type 0
HoldsIndex holders party index = holder_of holders index ≡ Some party

-- A call knows the capacity, and a call that saw or holds an index is on a set that has one.
abbrev pub HasCells : ℕ → IndexCall → Type 0
HasCells n Idle = Unit {0}
HasCells n (Acquire capacity) = capacity ≡ n
HasCells n (Follow capacity word) = (capacity ≡ n) × (0 < n)
HasCells n (Take capacity word next) = (capacity ≡ n) × (0 < n)
HasCells n (Release index mode) = 0 < n
HasCells n (Link index mode word) = 0 < n
HasCells n (Give index mode word) = 0 < n
HasCells n (Done c answer) = Unit {0}

-- What is known of a call at its stage, which the party began with the step `first`.
abbrev pub Knows : RingWords → List (Option ℕ) → List Event → ℕ → ℕ → IndexCall → Type 0
Knows words holders events party first Idle = Unit {0}
Knows words holders events party first (Acquire capacity) = MoveNone (own party (drop first events))
Knows words holders events party first (Follow capacity word) =
    MoveNone (own party (drop first events)) × Looked words events first word
Knows words holders events party first (Take capacity word next) =
    MoveNone (own party (drop first events))
    × ((looked : Looked words events first word) × (looked.since ≡ 0 → slice_index words.cells (next_free word) ≡ next))
Knows words holders events party first (Release index mode) =
    MoveNone (own party (drop first events)) × HoldsIndex holders party index
Knows words holders events party first (Link index mode word) =
    MoveNone (own party (drop first events)) × HoldsIndex holders party index
Knows words holders events party first (Give index mode word) =
    MoveNone (own party (drop first events)) × HoldsIndex holders party index × (slice_index words.cells index ≡ next_free word)
Knows words holders events party first (Done c answer) =
    Tells (length words.cells) (is_locked_by (length words.cells) words.read) party first events c answer

-- Under the condition of the theorems: the words are consistent, each call in progress did what its stage says, each finished call did what
-- its result says, and a locked set was locked by a release.
pub record IsConsistent (m : IndexSetState) : Type 0 where
  pub whole : WordsFit m.words m.holders m.events
  pub knows : (party : ℕ) → Knows m.words m.holders m.events party (seat_at m.seats party).first (stage_at m.seats party)
  pub told : AreTold (length m.words.cells) (is_locked_by (length m.words.cells) m.words.read) m.events m.finished
  pub locked_by : is_locked m ≡ true → IsLockedByRelease m

-- The invariant: what holds after any steps, and what holds under the condition of the theorems.
pub record IsKept (m : IndexSetState) : Type 0 where
  pub few : length m.words.cells < 2 ^ 24
  pub size : length m.holders ≡ length m.words.cells
  pub began : (party : ℕ) → (seat_at m.seats party).first ≤ length m.events
  pub cells : (party : ℕ) → HasCells (length m.words.cells) (stage_at m.seats party)
  pub recorded : IsRecorded m
  pub counted : StepsAreOfCalls m
  pub sound : HasFewChanges m → IsConsistent m
