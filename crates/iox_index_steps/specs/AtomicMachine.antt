-- A single value as a machine: its steps, and their invariants.
use Rattle.std.specs.Prelude.{ℕ, ◌≡◌, ◌-◌, ◌^◌, ◌<◌, ◌⊎◌, Bool, true, false, not, ◌&&◌, nat_lt, Option, Some, None, List, [], ◌∷◌}
use Rattle.std.specs.Prelude.{◌++◌, length, set, slice_get, take, drop, replicate, is_none, ◌==◌, if◌then◌else◌}
use Rattle.std.specs.Global.{Vec}
use Rattle.iox_queues_steps.specs.Access.{RingWords, answer_of, after_access}
use Rattle.iox_queues_steps.specs.declared.access.Access.TheVariants.{Local}
use Rattle.iox_queues_steps.specs.declared.schedule.Stepped.{Stepped}
use Rattle.iox_queues.specs.declared.bits.machine.Event.{Event}
use Rattle.iox_queues.specs.Recorded.{Answered}
use Rattle.iox_queues.specs.Spans.{AreOfCalls, Span}
use Rattle.iox_queues.specs.Told.{own}
use Rattle.iox_queues.specs.Turns.{CallsOf, RunsBy, StepsBy, TellsCalls}
use Rattle.iox_index_steps.specs.AtomicSteps.{call_begun, call_next, call_take, call_is_idle, call_is_over}
use Rattle.iox_queues.specs.Values.{table_value}
use Rattle.iox_index_steps.specs.AtomicTold.{AreAsked, AreTold, IsAskedSoFar, LieWithin, MoveEach, Tells, call_in_hand, current_of}
use Rattle.iox_index_steps.specs.AtomicTold.{times_moved}
use Rattle.iox_index_steps.specs.declared.atomic.call.Call.{Call}
use Rattle.iox_index_steps.specs.declared.atomic.call.Call.TheVariants as call
use Rattle.iox_index_steps.specs.declared.atomic.call.AtomicCall.{AtomicCall}
use Rattle.iox_index_steps.specs.declared.atomic.call.AtomicCall.TheVariants as stage
use Rattle.iox_index_steps.specs.declared.atomic.Finished.{Finished}
use Rattle.iox_index_steps.specs.declared.atomic.Move.{Move}
use Rattle.iox_index_steps.specs.declared.atomic.Move.TheVariants.{Begin, GoOn}
use Rattle.iox_index_steps.specs.declared.atomic.state.Seat.{Seat}

-- The state: the values that may be stored, the shared words, the party whose store is in progress, the stage of each party, the steps
-- made, and the finished calls. The write position stores the counter; the cells are two halves that hold the value alternately, and a
-- spare one.
pub record AtomicState : Type 0 where
  pub values : List (Vec ℕ)
  pub words : RingWords
  pub producer : Option ℕ
  pub seats : List Seat
  pub events : List Event
  pub finished : List Finished

-- A party without a call in progress.
abbrev pub idle_seat : Seat
idle_seat = record { stage = stage.Idle; first = 0 }

-- The seat of a party; a missing party is idle.
abbrev pub seat_of : Option Seat → Seat
seat_of None = idle_seat
seat_of (Some seat) = seat

-- The seat of the party with this number; a party that doesn't exist is idle.
abbrev pub seat_at : List Seat → ℕ → Seat
seat_at seats party = seat_of (slice_get seats party)

-- The stage of the party with this number.
abbrev pub stage_at : List Seat → ℕ → AtomicCall
stage_at seats party = (seat_at seats party).stage

-- The words that are current at first.
abbrev pub initial_of : AtomicState → List ℕ
initial_of m = table_value m.values 0

-- How many words each value has.
abbrev pub width_of : AtomicState → ℕ
width_of m = length (initial_of m)

-- Whether a call may begin: a store if no other store is in progress and its value has as many words as the first; a load always.
abbrev pub may_begin : AtomicState → Call → Bool
may_begin m (call.Store number) = is_none m.producer && (length (table_value m.values number) == width_of m)
may_begin m call.Load = true

-- Whether a step is possible: a begin if the party exists, is idle, and the call may begin; a next step if the party has a call in
-- progress.
abbrev pub fits : AtomicState → Move → Bool
fits m (Begin party c) =
    nat_lt party (length m.seats) && (call_is_idle (stage_at m.seats party) && may_begin m c)
fits m (GoOn party) = nat_lt party (length m.seats) && not (call_is_idle (stage_at m.seats party))

-- Whether the step is the last one of its call.
abbrev pub ends : AtomicState → Move → Bool
ends m (Begin party c) = false
ends m (GoOn party) = call_is_over (stage_at m.seats party)

-- The party whose store is in progress, after this party began a call.
abbrev pub producer_begun : Option ℕ → ℕ → Call → Option ℕ
producer_begun producer party (call.Store number) = Some party
producer_begun producer party call.Load = producer

-- The party whose store is in progress, after a party at this stage made its next step.
abbrev pub producer_after : Option ℕ → AtomicCall → Option ℕ
producer_after producer stage.Idle = producer
producer_after producer (stage.Store number) = producer
producer_after producer (stage.Fill number counter next) = producer
producer_after producer stage.Load = producer
producer_after producer (stage.Gather counter next) = producer
producer_after producer (stage.Done (call.Store number)) = None
producer_after producer (stage.Done call.Load) = producer

-- The machine after a party begins a call.
abbrev pub begun : AtomicState → ℕ → Call → AtomicState
begun m party c = record m {
  producer = producer_begun m.producer party c;
  seats = set m.seats party (record { stage = call_begun c; first = length m.events });
  events = m.events ++ record { party = party; access = Local; answer = 0 } ∷ [];
}

-- The finished call of a party, if its next step is the last one.
abbrev pub call_ended : ℕ → ℕ → ℕ → AtomicCall → List Finished
call_ended party first last stage.Idle = []
call_ended party first last (stage.Store number) = []
call_ended party first last (stage.Fill number counter next) = []
call_ended party first last stage.Load = []
call_ended party first last (stage.Gather counter next) = []
call_ended party first last (stage.Done c) =
    record { party = party; call = c; first = first; last = last } ∷ []

-- The machine after a party makes its next access.
abbrev pub went : AtomicState → ℕ → AtomicState
went m party = record m {
  words = after_access m.words (call_next (width_of m) m.values (stage_at m.seats party));
  producer = producer_after m.producer (stage_at m.seats party);
  seats = set m.seats party (record {
    stage = call_take (width_of m) (stage_at m.seats party) (answer_of m.words (call_next (width_of m) m.values (stage_at m.seats party)));
    first = (seat_at m.seats party).first;
  });
  events = m.events ++ record {
    party = party;
    access = call_next (width_of m) m.values (stage_at m.seats party);
    answer = answer_of m.words (call_next (width_of m) m.values (stage_at m.seats party));
  } ∷ [];
  finished = m.finished ++ call_ended party (seat_at m.seats party).first (length m.events) (stage_at m.seats party);
}

-- The machine after a step that is possible.
abbrev pub happens : AtomicState → Move → AtomicState
happens m (Begin party c) = begun m party c
happens m (GoOn party) = went m party

-- The outcome of a step, and the machine after it.
abbrev pub StepsTo : AtomicState → Move → Stepped → AtomicState → Type 0
StepsTo m step r n = StepsBy fits ends happens m step r n

-- A list of steps of which `made` were made and the others were skipped; it may stop where memory for a possible step runs out.
abbrev pub RunsTo : AtomicState → List Move → ℕ → AtomicState → Type 0
RunsTo m steps made n = RunsBy fits happens m steps made n

-- The initial words: both halves hold these words, and the counter says that the first half is current.
abbrev pub start_words : List ℕ → RingWords
start_words initial = record { cells = initial ++ (initial ++ 0 ∷ []); write = 1; read = 0 }

-- The machine before the first step, in which the first of these values is current.
abbrev pub start : List (Vec ℕ) → ℕ → AtomicState
start values parties = record {
  values = values;
  words = start_words (table_value values 0);
  producer = None;
  seats = replicate parties idle_seat;
  events = [];
  finished = [];
}

-- The condition of the theorems: fewer than 2^64 - 1 stores moved the counter, so that it doesn't reach its end.
abbrev pub HasFewStores : AtomicState → Type 0
HasFewStores m = times_moved m.events < 2 ^ 64 - 1

-- What the recorded steps say: each has the result that its word held, and they leave the words as they are now; each finished call lies
-- within them; and the steps of each call, finished or in progress, are those that the call requested.
pub record IsRecorded (m : AtomicState) : Type 0 where
  pub answered : Answered (start_words (initial_of m)) m.events m.words
  pub among : LieWithin m.events m.finished
  pub ended : AreAsked (width_of m) m.values m.events m.finished
  pub going : (party : ℕ) → IsAskedSoFar (width_of m) m.values party (call_in_hand (stage_at m.seats party))
      (stage_at m.seats party) (own party (drop (seat_at m.seats party).first m.events))

-- Each finished call moved the counter as often as it must: a store once, a load never.
abbrev pub MovesOnce : AtomicState → Type 0
MovesOnce m = MoveEach m.events m.finished

-- The first and the last step of a finished call.
abbrev pub span_ended : Finished → Span
span_ended f = record { party = f.party; first = f.first; last = f.last }

-- The first and the last step of each of these calls.
abbrev pub spans_ended : List Finished → List Span
spans_ended [] = []
spans_ended (f ∷ finished) = span_ended f ∷ spans_ended finished

-- The number of the first step of a party's call in progress, if any.
abbrev pub begun_at : Seat → Option ℕ
begun_at seat = if call_is_idle seat.stage then None else Some seat.first

-- Each step belongs to exactly one call.
abbrev pub StepsAreOfCalls : AtomicState → Type 0
StepsAreOfCalls m = AreOfCalls m.events (spans_ended m.finished) (λ (party : ℕ). begun_at (seat_at m.seats party))

-- The party that makes this step.
abbrev pub party_of : Move → ℕ
party_of (Begin party c) = party
party_of (GoOn party) = party

-- The call that each party has in progress, if any.
abbrev pub hands : AtomicState → ℕ → Option Call
hands m party = call_in_hand (stage_at m.seats party)

-- The call of a step: the one that it begins, or the one in progress.
abbrev pub call_of_step : AtomicState → Move → Option Call
call_of_step m (Begin party c) = Some c
call_of_step m (GoOn party) = hands m party

-- Where this machine records its steps and its calls.
abbrev pub calls_of : CallsOf AtomicState Call Finished
calls_of = record {
  events = λ (m : AtomicState). m.events;
  finished = λ (m : AtomicState). m.finished;
  whose = λ (f : Finished). f.party;
  which = λ (f : Finished). f.call;
  hands = hands;
}

-- A step that was made is one event of the requested party, and leaves this party in the step's call; the last step of the call finishes
-- exactly that call and leaves the party in none. All other parties keep their calls.
abbrev pub TellsStep : AtomicState → Move → Stepped → AtomicState → Type 0
TellsStep m step r n = TellsCalls AtomicState Call Finished calls_of m (party_of step) (call_of_step m step) r n

-- The call is a store of these words.
abbrev pub IsStoreOf : List (Vec ℕ) → List ℕ → Call → Type 0
IsStoreOf values words (call.Store number) = table_value values number ≡ words
IsStoreOf values words call.Load = ⊥

-- One of these calls is a store of these words.
abbrev pub SomeStores : List (Vec ℕ) → List ℕ → List Finished → Type 0
SomeStores values words [] = ⊥
SomeStores values words (f ∷ finished) = IsStoreOf values words f.call ⊎ SomeStores values words finished

-- A store of these words made all its accesses; it is finished, or only its last step is still to come.
abbrev pub IsStored : AtomicState → List ℕ → Type 0
IsStored m words =
    SomeStores m.values words m.finished
    ⊎ ((party number : ℕ) × (stage_at m.seats party ≡ stage.Done (call.Store number)) × (table_value m.values number ≡ words))

-- The theorem: each call that is finished, or has only its last step before it, did what it was asked for; and the current words were at
-- every time the first ones or those of one store.
pub record IsTold (m : AtomicState) : Type 0 where
  pub ended : AreTold m.values m.events m.finished
  pub going : (party : ℕ) (c : Call) → stage_at m.seats party ≡ stage.Done c
      → Tells m.values party (seat_at m.seats party).first m.events c
  pub whole : (k : ℕ) → (current_of (initial_of m) (take k m.events) ≡ initial_of m)
      ⊎ IsStored m (current_of (initial_of m) (take k m.events))
