-- A bit set or counting bit set as a machine: its steps, and what they add up to.
use Rattle.std.specs.Prelude.{ℕ, ◌≡◌, ◌+◌, ◌<◌, ◌≤◌, Bool, true, false, not, ◌&&◌, nat_lt, Option, Some, None, List, [], ◌∷◌, ◌++◌}
use Rattle.std.specs.Prelude.{length, set, slice_get, slice_index, take, drop, replicate}
use Rattle.iox_queues_steps.specs.Access.{RingWords, answer_of, after_access}
use Rattle.iox_queues_steps.specs.declared.access.Access.TheVariants.{Local}
use Rattle.iox_queues_steps.specs.declared.schedule.Stepped.{Stepped}
use Rattle.iox_queues.specs.Steps.{call_begun, call_next, call_take, call_is_idle, call_is_over}
use Rattle.iox_queues.specs.Sums.{increments, taken_out, cleared}
use Rattle.iox_queues.specs.Told.{Tells, own}
use Rattle.iox_queues.specs.Turns.{RunsBy, StepsBy}
use Rattle.iox_queues.specs.declared.bits.call.Answer.{Answer}
use Rattle.iox_queues.specs.declared.bits.call.Call.{Call}
use Rattle.iox_queues.specs.declared.bits.call.Call.TheVariants as call
use Rattle.iox_queues.specs.declared.bits.call.SetCall.{SetCall}
use Rattle.iox_queues.specs.declared.bits.call.SetCall.TheVariants.{Idle, Add, Adding, Next, Sweep, Taking, Found, Done}
use Rattle.iox_queues.specs.declared.bits.machine.Event.{Event}
use Rattle.iox_queues.specs.declared.bits.machine.Finished.{Finished}
use Rattle.iox_queues.specs.declared.bits.machine.Move.{Move}
use Rattle.iox_queues.specs.declared.bits.machine.Move.TheVariants.{Begin, GoOn}
use Rattle.iox_queues.specs.declared.bits.state.Seat.{Seat}

-- A set with its parties: the largest count, the words, the stage of each party, the steps made, and the finished calls.
pub record SetState : Type 0 where
  pub max : ℕ
  pub words : RingWords
  pub seats : List Seat
  pub events : List Event
  pub finished : List Finished

-- A party without a call in progress.
abbrev pub idle_seat : Seat
idle_seat = record { stage = Idle; first = 0 }

-- The seat of a party; a missing party is idle.
abbrev pub seat_of : Option Seat → Seat
seat_of None = idle_seat
seat_of (Some seat) = seat

-- The seat of the party with this number; a party that doesn't exist is idle.
abbrev pub seat_at : List Seat → ℕ → Seat
seat_at seats party = seat_of (slice_get seats party)

-- The stage of the party with this number; a party that doesn't exist is idle.
abbrev pub stage_at : List Seat → ℕ → SetCall
stage_at seats party = (seat_at seats party).stage

-- Whether a call names only places below the capacity.
abbrev pub is_within : ℕ → Call → Bool
is_within capacity (call.Set place) = nat_lt place capacity
is_within capacity call.ResetNext = true
is_within capacity call.ResetAll = true

-- Whether a step is possible: a begin if the party exists, is idle, and the call's place exists; a next step if the party has a call in
-- progress.
abbrev pub fits : SetState → Move → Bool
fits m (Begin party c) =
    nat_lt party (length m.seats) && (call_is_idle (stage_at m.seats party) && is_within (length m.words.cells) c)
fits m (GoOn party) = nat_lt party (length m.seats) && not (call_is_idle (stage_at m.seats party))

-- Whether the step is the last one of its call.
abbrev pub ends : SetState → Move → Bool
ends m (Begin party c) = false
ends m (GoOn party) = call_is_over (stage_at m.seats party)

-- The machine after a party begins a call.
abbrev pub begun : SetState → ℕ → Call → SetState
begun m party c = record m {
  seats = set m.seats party (record { stage = call_begun m.max (length m.words.cells) c; first = length m.events });
  events = m.events ++ record { party = party; access = Local; answer = 0 } ∷ [];
}

-- The finished call of a party, if its next step is the last one.
abbrev pub call_ended : ℕ → ℕ → ℕ → SetCall → List Finished
call_ended party first last Idle = []
call_ended party first last (Add place top) = []
call_ended party first last (Adding place top count) = []
call_ended party first last (Next capacity) = []
call_ended party first last (Sweep place left capacity all) = []
call_ended party first last (Taking place left capacity all count) = []
call_ended party first last (Found place after) = []
call_ended party first last (Done c answer) =
    record { party = party; call = c; answer = answer; first = first; last = last } ∷ []

-- The machine after a party makes its next access.
abbrev pub went : SetState → ℕ → SetState
went m party = record m {
  words = after_access m.words (call_next (stage_at m.seats party));
  seats = set m.seats party (record {
    stage = call_take (stage_at m.seats party) (answer_of m.words (call_next (stage_at m.seats party)));
    first = (seat_at m.seats party).first;
  });
  events = m.events ++ record {
    party = party;
    access = call_next (stage_at m.seats party);
    answer = answer_of m.words (call_next (stage_at m.seats party));
  } ∷ [];
  finished = m.finished ++ call_ended party (seat_at m.seats party).first (length m.events) (stage_at m.seats party);
}

-- The machine after a step that is possible.
abbrev pub happens : SetState → Move → SetState
happens m (Begin party c) = begun m party c
happens m (GoOn party) = went m party

-- The outcome of a step, and the machine after it.
abbrev pub StepsTo : SetState → Move → Stepped → SetState → Type 0
StepsTo m step r n = StepsBy fits ends happens m step r n

-- A list of steps of which `made` were made and the others were skipped; it may stop where memory for a possible step runs out.
abbrev pub RunsTo : SetState → List Move → ℕ → SetState → Type 0
RunsTo m steps made n = RunsBy fits happens m steps made n

-- For each place, the increments are the counts taken out plus the current count, and no count exceeds the largest. In a bit set, a place
-- was set as often as it was cleared, plus once if it is set now.
pub record IsBalanced (m : SetState) : Type 0 where
  pub each : (i : ℕ) → i < length m.words.cells
      → increments (length m.words.cells) i m.events ≡ taken_out (length m.words.cells) i m.events + slice_index m.words.cells i
  pub within : (i : ℕ) → i < length m.words.cells → slice_index m.words.cells i ≤ m.max
  pub bits : m.max ≤ 1 → (i : ℕ) → i < length m.words.cells
      → increments (length m.words.cells) i m.events ≡ cleared (length m.words.cells) i m.events + slice_index m.words.cells i

-- The steps of a finished call are what its result says, and lie within the steps made.
pub record IsToldBy (max n : ℕ) (events : List Event) (f : Finished) : Type 0 where
  pub begun : f.first ≤ f.last
  pub ended : f.last < length events
  pub tells : Tells max n f.call f.answer (own f.party (drop f.first (take f.last events)))

-- Each of these finished calls did what its result says.
abbrev pub AreTold : ℕ → ℕ → List Event → List Finished → Type 0
AreTold max n events [] = Unit {0}
AreTold max n events (f ∷ finished) = IsToldBy max n events f × AreTold max n events finished

-- Each finished call did what its result says, and so did each call in progress that has its result.
abbrev pub IsTold : SetState → Type 0
IsTold m = AreTold m.max (length m.words.cells) m.events m.finished
    × ((party : ℕ) (c : Call) (answer : Answer) → stage_at m.seats party ≡ Done c answer
    → Tells m.max (length m.words.cells) c answer (own party (drop (seat_at m.seats party).first m.events)))

-- The words of an empty set with this capacity.
abbrev pub start_words : ℕ → RingWords
start_words capacity = record { cells = replicate capacity 0; write = 0; read = 0 }

-- The machine of an empty set, before the first step.
abbrev pub start : ℕ → ℕ → ℕ → SetState
start max capacity parties = record {
  max = max;
  words = start_words capacity;
  seats = replicate parties idle_seat;
  events = [];
  finished = [];
}
