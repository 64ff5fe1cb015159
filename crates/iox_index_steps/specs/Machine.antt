-- An index set as a machine: its steps, and their invariants.
use Rattle.std.specs.Prelude.{ℕ, ◌≡◌, ◌+◌, ◌<◌, ◌⊎◌, Bool, true, false, not, if◌then◌else◌, ◌==◌, ◌&&◌, nat_lt, Option, Some, None, List}
use Rattle.std.specs.Prelude.{[], ◌∷◌, ◌++◌, length, set, slice_get, slice_index_or, take, drop, replicate}
use Rattle.std.specs.List.{range_with_len}
use Rattle.iox_queues_steps.specs.Access.{RingWords, answer_of, after_access}
use Rattle.iox_queues_steps.specs.declared.access.Access.TheVariants.{Local}
use Rattle.iox_queues_steps.specs.declared.schedule.Stepped.{Stepped}
use Rattle.iox_container.specs.Head.{word_of_head}
use Rattle.iox_queues.specs.Recorded.{Answered}
use Rattle.iox_queues.specs.Told.{own}
use Rattle.iox_queues.specs.Turns.{RunsBy, StepsBy}
use Rattle.iox_queues.specs.declared.bits.machine.Event.{Event}
use Rattle.iox_index_steps.specs.Steps.{call_begun, call_next, call_take, call_is_idle, call_is_over, next_free, is_locked_by}
use Rattle.iox_index_steps.specs.Changes.{times_taken, times_given}
use Rattle.iox_index_steps.specs.Told.{AreAsked, AreBrief, AreTold, IsAskedSoFar, IsBrief, LieWithin, TakesTurns, Tells, is_locking}
use Rattle.iox_index_steps.specs.Told.{some_has_locked}
use Rattle.iox_index_steps.specs.declared.call.Answer.{Answer}
use Rattle.iox_index_steps.specs.declared.call.Call.{Call}
use Rattle.iox_index_steps.specs.declared.call.Call.TheVariants as call
use Rattle.iox_index_steps.specs.declared.call.IndexCall.{IndexCall}
use Rattle.iox_index_steps.specs.declared.call.IndexCall.TheVariants.{Idle, Acquire, Follow, Take, Release, Link, Give, Done}
use Rattle.iox_index_steps.specs.declared.machine.Finished.{Finished}
use Rattle.iox_index_steps.specs.declared.machine.Move.{Move}
use Rattle.iox_index_steps.specs.declared.machine.Move.TheVariants.{Begin, GoOn}
use Rattle.iox_index_steps.specs.declared.state.Seat.{Seat}

-- The state: the words, the stage of each party, the party that took each held index, the steps made, and the finished calls. The
-- read position stores the head; the cell of an index names the index that is free after it.
pub record IndexSetState : Type 0 where
  pub words : RingWords
  pub seats : List Seat
  pub holders : List (Option ℕ)
  pub events : List Event
  pub finished : List Finished

-- A party without a call in progress.
abbrev pub idle_seat : Seat
idle_seat = record { stage = Idle; first = 0 }

-- The seat of a party; a missing party is idle.
abbrev pub seat_of : Option Seat → Seat
seat_of None = idle_seat
seat_of (Some seat) = seat

-- The seat of the party with this number; a party that doesn't exist is idle.
abbrev pub seat_at : List Seat → ℕ → Seat
seat_at seats party = seat_of (slice_get seats party)

-- The stage of the party with this number.
abbrev pub stage_at : List Seat → ℕ → IndexCall
stage_at seats party = (seat_at seats party).stage

-- The party that took the index, until it releases the index.
abbrev pub holder_of : List (Option ℕ) → ℕ → Option ℕ
holder_of holders index = slice_index_or holders index None

-- Whether the holder is this party.
abbrev pub is_holder : ℕ → Option ℕ → Bool
is_holder party None = false
is_holder party (Some holder) = holder == party

-- 1 if this party is the holder, else 0.
abbrev pub one_if_holder : ℕ → Option ℕ → ℕ
one_if_holder party holder = if is_holder party holder then 1 else 0

-- Whether a call may begin: an acquire always, a release if the party holds the index.
abbrev pub may_begin : List (Option ℕ) → ℕ → Call → Bool
may_begin holders party call.Acquire = true
may_begin holders party (call.Release index mode) = is_holder party (holder_of holders index)

-- Whether a step is possible: a begin if the party exists, is idle, and the call may begin; a next step if the party has a call in
-- progress.
abbrev pub fits : IndexSetState → Move → Bool
fits m (Begin party c) =
    nat_lt party (length m.seats) && (call_is_idle (stage_at m.seats party) && may_begin m.holders party c)
fits m (GoOn party) = nat_lt party (length m.seats) && not (call_is_idle (stage_at m.seats party))

-- Whether the step is the last one of its call.
abbrev pub ends : IndexSetState → Move → Bool
ends m (Begin party c) = false
ends m (GoOn party) = call_is_over (stage_at m.seats party)

-- The machine after a party begins a call.
abbrev pub begun : IndexSetState → ℕ → Call → IndexSetState
begun m party c = record m {
  seats = set m.seats party (record { stage = call_begun (length m.words.cells) c; first = length m.events });
  events = m.events ++ record { party = party; access = Local; answer = 0 } ∷ [];
}

-- The holders after an exchange of the head, which may have failed.
abbrev pub holders_after : List (Option ℕ) → ℕ → IndexCall → ℕ → List (Option ℕ)
holders_after holders party Idle answer = holders
holders_after holders party (Acquire capacity) answer = holders
holders_after holders party (Follow capacity word) answer = holders
holders_after holders party (Take capacity word next) answer =
    if answer == word then set holders (next_free word) (Some party) else holders
holders_after holders party (Release index mode) answer = holders
holders_after holders party (Link index mode word) answer = holders
holders_after holders party (Give index mode word) answer = if answer == word then set holders index None else holders
holders_after holders party (Done c answered) answer = holders

-- The finished call of a party, if its next step is the last one.
abbrev pub call_ended : ℕ → ℕ → ℕ → IndexCall → List Finished
call_ended party first last Idle = []
call_ended party first last (Acquire capacity) = []
call_ended party first last (Follow capacity word) = []
call_ended party first last (Take capacity word next) = []
call_ended party first last (Release index mode) = []
call_ended party first last (Link index mode word) = []
call_ended party first last (Give index mode word) = []
call_ended party first last (Done c answer) =
    record { party = party; call = c; answer = answer; first = first; last = last } ∷ []

-- The machine after a party makes its next access.
abbrev pub went : IndexSetState → ℕ → IndexSetState
went m party = record m {
  words = after_access m.words (call_next (stage_at m.seats party));
  seats = set m.seats party (record {
    stage = call_take (stage_at m.seats party) (answer_of m.words (call_next (stage_at m.seats party)));
    first = (seat_at m.seats party).first;
  });
  holders = holders_after m.holders party (stage_at m.seats party) (answer_of m.words (call_next (stage_at m.seats party)));
  events = m.events ++ record {
    party = party;
    access = call_next (stage_at m.seats party);
    answer = answer_of m.words (call_next (stage_at m.seats party));
  } ∷ [];
  finished = m.finished ++ call_ended party (seat_at m.seats party).first (length m.events) (stage_at m.seats party);
}

-- The machine after a step that is possible.
abbrev pub happens : IndexSetState → Move → IndexSetState
happens m (Begin party c) = begun m party c
happens m (GoOn party) = went m party

-- The outcome of a step, and the machine after it.
abbrev pub StepsTo : IndexSetState → Move → Stepped → IndexSetState → Type 0
StepsTo m step r n = StepsBy fits ends happens m step r n

-- A list of steps of which `made` were made and the others were skipped; it may stop where memory for a possible step runs out.
abbrev pub RunsTo : IndexSetState → List Move → ℕ → IndexSetState → Type 0
RunsTo m steps made n = RunsBy fits happens m steps made n

-- Whether the set is locked.
abbrev pub is_locked : IndexSetState → Bool
is_locked m = is_locked_by (length m.words.cells) m.words.read

-- If an acquire is in progress, the steps since its begin changed the head fewer than 2^16 times.
abbrev pub IsBriefSoFar : IndexCall → List Event → Type 0
IsBriefSoFar Idle events = Unit {0}
IsBriefSoFar (Acquire capacity) events = IsBrief call.Acquire events
IsBriefSoFar (Follow capacity word) events = IsBrief call.Acquire events
IsBriefSoFar (Take capacity word next) events = IsBrief call.Acquire events
IsBriefSoFar (Release index mode) events = Unit {0}
IsBriefSoFar (Link index mode word) events = Unit {0}
IsBriefSoFar (Give index mode word) events = Unit {0}
IsBriefSoFar (Done c answer) events = IsBrief c events

-- The condition of the theorems: the head changes fewer than 2^16 times within each acquire, finished or in progress.
pub record HasFewChanges (m : IndexSetState) : Type 0 where
  pub ended : AreBrief m.events m.finished
  pub going : (party : ℕ) → IsBriefSoFar (stage_at m.seats party) (drop (seat_at m.seats party).first m.events)

-- A release that was to lock the set has locked it; it is finished, or in progress with its result.
abbrev pub IsLockedByRelease : IndexSetState → Type 0
IsLockedByRelease m =
    (some_has_locked m.finished ≡ true) ⊎ ((party : ℕ) × (is_locking (stage_at m.seats party) ≡ true))

-- These steps took the index more often than they released it.
abbrev pub IsOut : ℕ → List Event → Type 0
IsOut i events = times_given i events < times_taken i events

-- The theorem. No index has two holders: by its own steps at most one party holds it. Acquires and releases of an index alternate. A
-- party's own steps took exactly the indices that it holds once more often than they released them. A locked set has no held index, and
-- only a release that was to lock it has locked it. Each finished call, and each call in progress that has its result, did what the result
-- says.
pub record IsOrderly (m : IndexSetState) : Type 0 where
  pub one_holder : (i p q : ℕ) → IsOut i (own p m.events) → IsOut i (own q m.events) → p ≡ q
  pub turns : (i k : ℕ) → TakesTurns i (take k m.events)
  pub holds : (party i : ℕ)
      → times_taken i (own party m.events) ≡ times_given i (own party m.events) + one_if_holder party (holder_of m.holders i)
  pub locked_by : is_locked m ≡ true → IsLockedByRelease m
  pub none_out : is_locked m ≡ true → (i : ℕ) → times_taken i m.events ≡ times_given i m.events
  pub told : AreTold (length m.words.cells) (is_locked m) m.events m.finished
  pub going : (party : ℕ) (c : Call) (answer : Answer) → stage_at m.seats party ≡ Done c answer
      → Tells (length m.words.cells) (is_locked m) party (seat_at m.seats party).first m.events c answer

-- A locked set stays locked.
abbrev pub StaysLocked : IndexSetState → IndexSetState → Type 0
StaysLocked m n = is_locked m ≡ true → is_locked n ≡ true

-- The words of a set without a held index: each index is free, and leads to the next one.
abbrev pub start_words : ℕ → RingWords
start_words capacity = record {
  cells = range_with_len 1 capacity;
  write = 0;
  read = word_of_head (record { head = 0; aba = 0; borrowed_indices = 0 });
}

-- The machine of a set without a held index, before the first step.
abbrev pub start : ℕ → ℕ → IndexSetState
start capacity parties = record {
  words = start_words capacity;
  seats = replicate parties idle_seat;
  holders = replicate capacity None;
  events = [];
  finished = [];
}

-- What the recorded steps say: each has the result that its word held, and they leave the words as they are now; each finished call lies
-- within them; and the steps of each call, finished or in progress, are those that the call requested.
pub record IsRecorded (m : IndexSetState) : Type 0 where
  pub answered : Answered (start_words (length m.words.cells)) m.events m.words
  pub among : LieWithin m.events m.finished
  pub ended : AreAsked (length m.words.cells) m.events m.finished
  pub going : (party : ℕ)
      → IsAskedSoFar (length m.words.cells) party (stage_at m.seats party) (own party (drop (seat_at m.seats party).first m.events))
