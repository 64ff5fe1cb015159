-- A set that knows the owner of each held index as a machine: its steps, and their invariants.
use Rattle.std.specs.Prelude.{ℕ, ◌≡◌, ◌+◌, ◌-◌, ◌^◌, ◌<◌, ◌⊎◌, Bool, true, false, not, if◌then◌else◌, ◌==◌, ◌&&◌, nat_lt, Option}
use Rattle.std.specs.Prelude.{Some, None, List, [], ◌∷◌, ◌++◌, length, set, slice_get, slice_index, slice_index_or, take, drop, replicate}
use Rattle.std.specs.List.{list_any}
use Rattle.std.specs.Global.{Vec}
use Rattle.iox_queues_steps.specs.Access.{RingWords, answer_of, after_access, word_of}
use Rattle.iox_queues_steps.specs.declared.access.Word.TheVariants.{Cell}
use Rattle.iox_queues_steps.specs.declared.access.Access.TheVariants.{Local}
use Rattle.iox_queues_steps.specs.declared.schedule.Stepped.{Stepped}
use Rattle.iox_queues.specs.Recorded.{Answered}
use Rattle.iox_queues.specs.Told.{own}
use Rattle.iox_queues.specs.Turns.{RunsBy, StepsBy}
use Rattle.iox_queues.specs.declared.bits.machine.Event.{Event}
use Rattle.iox_robust_steps.specs.Steps.{call_begun, call_in_hand, call_is_idle, call_is_over, call_next, call_take, lock_mark}
use Rattle.iox_robust_steps.specs.Changes.{is_owner, times_given, times_taken}
use Rattle.iox_robust_steps.specs.Told.{AreAsked, AreFreed, AreTold, EachFreesItsOwn, Holds, IsAskedSoFar, LieWithin, TakesTurns}
use Rattle.iox_robust_steps.specs.Told.{Tells}
use Rattle.iox_robust_steps.specs.Told.{is_locking, some_has_locked}
use Rattle.iox_robust_steps.specs.Named.{StandsUnder}
use Rattle.iox_robust_steps.specs.declared.call.Answer.{Answer}
use Rattle.iox_robust_steps.specs.declared.call.Call.{Call}
use Rattle.iox_robust_steps.specs.declared.call.Call.TheVariants as call
use Rattle.iox_robust_steps.specs.declared.call.RobustCall.{RobustCall}
use Rattle.iox_robust_steps.specs.declared.call.RobustCall.TheVariants as stage
use Rattle.iox_robust_steps.specs.declared.machine.Finished.{Finished}
use Rattle.iox_robust_steps.specs.declared.machine.Move.{Move}
use Rattle.iox_robust_steps.specs.declared.machine.Move.TheVariants.{Begin, GoOn, Insist}
use Rattle.iox_robust_steps.specs.declared.state.Place.{Place}
use Rattle.iox_robust_steps.specs.declared.state.Place.TheVariants as place
use Rattle.iox_robust_steps.specs.declared.state.Seat.{Seat}

-- The state: how many indices there are, the decisions of recoveries, whether a step may insist against them, the words, the stage of
-- each party, the state of each index, the owners whose recovery began, the steps made, and the finished calls. The read position
-- stores the count; the cell of an index names its owner; the cells of the indices are followed by a spare one.
pub record RobustSetState : Type 0 where
  pub capacity : ℕ
  pub decisions : List (Vec Bool)
  pub may_insist : Bool
  pub words : RingWords
  pub seats : List Seat
  pub places : List Place
  pub lost : List ℕ
  pub events : List Event
  pub finished : List Finished

-- A party without a call in progress.
abbrev pub idle_seat : Seat
idle_seat = record { stage = stage.Idle; first = 0 }

-- The seat of a party; a missing party is idle.
abbrev pub seat_of : Option Seat → Seat
seat_of None = idle_seat
seat_of (Some seat) = seat

-- The seat of the party with this number; a party that doesn't exist is idle.
abbrev pub seat_at : List Seat → ℕ → Seat
seat_at seats party = seat_of (slice_get seats party)

-- The stage of the party with this number.
abbrev pub stage_at : List Seat → ℕ → RobustCall
stage_at seats party = (seat_at seats party).stage

-- The state of an index: how far an acquire has come, and of which party.
abbrev pub place_of : List Place → ℕ → Place
place_of places index = slice_index_or places index place.Empty

-- Whether this party holds the index.
abbrev pub is_holder : ℕ → Place → Bool
is_holder party place.Empty = false
is_holder party (place.Claimed p) = false
is_holder party (place.Counted p) = false
is_holder party (place.Held p) = p == party

-- 1 if the index is held, else 0.
abbrev pub one_if_held : Place → ℕ
one_if_held place.Empty = 0
one_if_held (place.Claimed p) = 0
one_if_held (place.Counted p) = 0
one_if_held (place.Held p) = 1

-- The cell of an index is consistent with its state: it is empty, or shows an owner that is about to take the index, or names the owner
-- that took it.
abbrev pub CellFits : Place → ℕ → Type 0
CellFits place.Empty cell = cell ≡ 0
CellFits (place.Claimed p) cell = 2 ^ 63 < cell
CellFits (place.Counted p) cell = 2 ^ 63 < cell
CellFits (place.Held p) cell = (0 < cell) × (cell < 2 ^ 63)

-- Whether the recovery of this owner began.
abbrev pub is_lost : ℕ → List ℕ → Bool
is_lost owner lost = list_any (λ (other : ℕ). other == owner) lost

-- Whether the call acts for an owner whose recovery began.
abbrev pub is_halted : List ℕ → RobustCall → Bool
is_halted lost stage.Idle = false
is_halted lost (stage.Acquire owner) = is_lost owner lost
is_halted lost (stage.Claim owner place count) = is_lost owner lost
is_halted lost (stage.Count owner place count) = is_lost owner lost
is_halted lost (stage.Confirm owner place) = is_lost owner lost
is_halted lost (stage.Undo owner place) = is_lost owner lost
is_halted lost (stage.Free owner index mode) = is_lost owner lost
is_halted lost (stage.Look owner number mode place) = false
is_halted lost (stage.Clear owner number mode place seen) = false
is_halted lost (stage.Settle c) = false
is_halted lost (stage.Scan c place count) = false
is_halted lost (stage.Lock c count) = false
is_halted lost (stage.Done c answer) = false

-- Whether a call may begin: an acquire if the owner is valid and its recovery hasn't begun; a release if the party also holds the index for
-- this owner; a recovery of any valid owner.
abbrev pub may_begin : RobustSetState → ℕ → Call → Bool
may_begin m party (call.Acquire owner) = is_owner owner && not (is_lost owner m.lost)
may_begin m party (call.Release owner index mode) =
    (is_owner owner && not (is_lost owner m.lost))
    && (nat_lt index m.capacity && (is_holder party (place_of m.places index) && (word_of m.words (Cell index) == owner)))
may_begin m party (call.Recover owner number mode) = is_owner owner

-- Whether a step is possible: a begin if the party exists, is idle, and the call may begin; a next step if the party has a call in progress
-- that isn't halted; an insisting step if the machine also permits it.
abbrev pub fits : RobustSetState → Move → Bool
fits m (Begin party c) = nat_lt party (length m.seats) && (call_is_idle (stage_at m.seats party) && may_begin m party c)
fits m (GoOn party) =
    nat_lt party (length m.seats) && (not (call_is_idle (stage_at m.seats party)) && not (is_halted m.lost (stage_at m.seats party)))
fits m (Insist party) = m.may_insist
    && (nat_lt party (length m.seats) && (not (call_is_idle (stage_at m.seats party)) && not (is_halted m.lost (stage_at m.seats party))))

-- Whether the step is the last one of its call.
abbrev pub ends : RobustSetState → Move → Bool
ends m (Begin party c) = false
ends m (GoOn party) = call_is_over (stage_at m.seats party)
ends m (Insist party) = call_is_over (stage_at m.seats party)

-- The owners whose recovery began, after this call begins.
abbrev pub lost_begun : List ℕ → Call → List ℕ
lost_begun lost (call.Acquire owner) = lost
lost_begun lost (call.Release owner index mode) = lost
lost_begun lost (call.Recover owner number mode) = lost ++ owner ∷ []

-- The machine after a party begins a call.
abbrev pub begun : RobustSetState → ℕ → Call → RobustSetState
begun m party c = record m {
  seats = set m.seats party (record { stage = call_begun m.capacity c; first = length m.events });
  lost = lost_begun m.lost c;
  events = m.events ++ record { party = party; access = Local; answer = 0 } ∷ [];
}

-- The state of each index after an access of a party.
abbrev pub places_after : List Place → ℕ → RobustCall → ℕ → List Place
places_after places party stage.Idle answer = places
places_after places party (stage.Acquire owner) answer = places
places_after places party (stage.Claim owner i count) answer = if answer == 0 then set places i (place.Claimed party) else places
places_after places party (stage.Count owner i count) answer = if answer == count then set places i (place.Counted party) else places
places_after places party (stage.Confirm owner i) answer = set places i (place.Held party)
places_after places party (stage.Undo owner i) answer = set places i place.Empty
places_after places party (stage.Free owner i mode) answer = if answer == owner then set places i place.Empty else places
places_after places party (stage.Look owner number mode i) answer = places
places_after places party (stage.Clear owner number mode i seen) answer = if answer == seen then set places i place.Empty else places
places_after places party (stage.Settle c) answer = places
places_after places party (stage.Scan c i count) answer = places
places_after places party (stage.Lock c count) answer = places
places_after places party (stage.Done c answered) answer = places

-- The finished call of a party, if its next step is the last one.
abbrev pub call_ended : ℕ → ℕ → ℕ → RobustCall → List Finished
call_ended party first last stage.Idle = []
call_ended party first last (stage.Acquire owner) = []
call_ended party first last (stage.Claim owner i count) = []
call_ended party first last (stage.Count owner i count) = []
call_ended party first last (stage.Confirm owner i) = []
call_ended party first last (stage.Undo owner i) = []
call_ended party first last (stage.Free owner i mode) = []
call_ended party first last (stage.Look owner number mode i) = []
call_ended party first last (stage.Clear owner number mode i seen) = []
call_ended party first last (stage.Settle c) = []
call_ended party first last (stage.Scan c i count) = []
call_ended party first last (stage.Lock c count) = []
call_ended party first last (stage.Done c answer) =
    record { party = party; call = c; answer = answer; first = first; last = last } ∷ []

-- The machine after a party makes its next access; if the step insists, a recovery frees an index of its owner that it sees, whatever the
-- decisions are.
abbrev pub went : RobustSetState → ℕ → Bool → RobustSetState
went m party insists = record m {
  words = after_access m.words (call_next (stage_at m.seats party));
  seats = set m.seats party (record {
    stage = call_take m.capacity m.decisions insists (stage_at m.seats party) (answer_of m.words (call_next (stage_at m.seats party)));
    first = (seat_at m.seats party).first;
  });
  places = places_after m.places party (stage_at m.seats party) (answer_of m.words (call_next (stage_at m.seats party)));
  events = m.events ++ record {
    party = party;
    access = call_next (stage_at m.seats party);
    answer = answer_of m.words (call_next (stage_at m.seats party));
  } ∷ [];
  finished = m.finished ++ call_ended party (seat_at m.seats party).first (length m.events) (stage_at m.seats party);
}

-- The machine after a step that is possible.
abbrev pub happens : RobustSetState → Move → RobustSetState
happens m (Begin party c) = begun m party c
happens m (GoOn party) = went m party false
happens m (Insist party) = went m party true

-- The outcome of a step, and the machine after it.
abbrev pub StepsTo : RobustSetState → Move → Stepped → RobustSetState → Type 0
StepsTo m step r n = StepsBy fits ends happens m step r n

-- A list of steps of which `made` were made and the others were skipped; it may stop where memory for a possible step runs out.
abbrev pub RunsTo : RobustSetState → List Move → ℕ → RobustSetState → Type 0
RunsTo m steps made n = RunsBy fits happens m steps made n

-- Whether the set is locked.
abbrev pub is_locked : RobustSetState → Bool
is_locked m = m.words.read == lock_mark

-- The condition of the theorems: fewer than 2^64 - 1 steps were made, so that the count doesn't reach its end.
abbrev pub HasFewSteps : RobustSetState → Type 0
HasFewSteps m = length m.events < 2 ^ 64 - 1

-- A call that was to lock the set has locked it; it is finished, or in progress with its result.
abbrev pub IsLockedByRelease : RobustSetState → Type 0
IsLockedByRelease m =
    (some_has_locked m.finished ≡ true) ⊎ ((party : ℕ) × (is_locking (stage_at m.seats party) ≡ true))

-- The theorem. No index has two holders; the holder is the party that took it, and nobody released it. Acquires of an index alternate with
-- its releases and recoveries. The cell of an index is consistent with its state, and while the index is held, names the owner of the
-- acquire that took it last and returned it. A locked set has no held index, and only a call that was to lock it has locked it. The own
-- steps of each finished call, and of each call in progress that has its result, did what the result says. A recovery left its owner no
-- selected index, for good.
pub record IsOrderly (m : RobustSetState) : Type 0 where
  pub one_holder : (i p q : ℕ) → Holds p i m.events → Holds q i m.events → p ≡ q
  pub holder : (i p : ℕ) → place_of m.places i ≡ place.Held p → Holds p i m.events
  pub held : (i p : ℕ) → Holds p i m.events → place_of m.places i ≡ place.Held p
  pub turns : (i k : ℕ) → TakesTurns i (take k m.events)
  pub cells : (i : ℕ) → i < m.capacity → CellFits (place_of m.places i) (slice_index m.words.cells i)
  pub named : (i p : ℕ) → place_of m.places i ≡ place.Held p
      → StandsUnder p i (slice_index m.words.cells i) (seat_at m.seats p) m.events m.finished
  pub holds : (i : ℕ) → times_taken i m.events ≡ times_given i m.events + one_if_held (place_of m.places i)
  pub locked_by : is_locked m ≡ true → IsLockedByRelease m
  pub none_out : is_locked m ≡ true → (i : ℕ) → times_taken i m.events ≡ times_given i m.events
  pub told : AreTold m.capacity (is_locked m) m.events m.finished
  pub going : (party : ℕ) (c : Call) (answer : Answer) → stage_at m.seats party ≡ stage.Done c answer
      → Tells m.capacity (is_locked m) (own party (drop (seat_at m.seats party).first m.events)) c answer
  pub freed : AreFreed m.decisions m.lost m.words.cells m.capacity m.finished

-- A locked set stays locked.
abbrev pub StaysLocked : RobustSetState → RobustSetState → Type 0
StaysLocked m n = is_locked m ≡ true → is_locked n ≡ true

-- The words of a set without a held index.
abbrev pub start_words : ℕ → RingWords
start_words capacity = record { cells = replicate (capacity + 1) 0; write = 0; read = 0 }

-- The machine of a set without a held index, with the decisions of recoveries, against which a step may insist or not.
abbrev pub start : ℕ → ℕ → List (Vec Bool) → Bool → RobustSetState
start capacity parties decisions may_insist = record {
  capacity = capacity;
  decisions = decisions;
  may_insist = may_insist;
  words = start_words capacity;
  seats = replicate parties idle_seat;
  places = replicate capacity place.Empty;
  lost = [];
  events = [];
  finished = [];
}

-- What the recorded steps say, after any number of them: each has the result that its word held, and they leave the words as they are now;
-- each finished call lies within them; the steps of each call, finished or in progress, are those that the call requested; and a recovery
-- freed only what it was to free of its owner.
pub record IsRecorded (m : RobustSetState) : Type 0 where
  pub answered : Answered (start_words m.capacity) m.events m.words
  pub among : LieWithin m.events m.finished
  pub ended : AreAsked m.capacity m.decisions m.may_insist m.events m.finished
  pub frees : EachFreesItsOwn m.decisions m.may_insist m.events m.finished
  pub going : (party : ℕ) → IsAskedSoFar m.capacity m.decisions m.may_insist party (call_in_hand (stage_at m.seats party))
      (stage_at m.seats party) (own party (drop (seat_at m.seats party).first m.events))
