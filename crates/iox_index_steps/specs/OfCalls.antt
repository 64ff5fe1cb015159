-- Which steps of an index set's machine belong to which calls, and what one more step adds.
use Rattle.std.specs.Prelude.{ℕ, if◌then◌else◌, Option, Some, None, List, [], ◌∷◌}
use Rattle.iox_queues_steps.specs.declared.schedule.Stepped.{Stepped}
use Rattle.iox_queues.specs.Spans.{AreOfCalls, Span}
use Rattle.iox_queues.specs.Turns.{CallsOf, TellsCalls}
use Rattle.iox_index_steps.specs.Steps.{call_is_idle}
use Rattle.iox_index_steps.specs.Machine.{IndexSetState, seat_at, stage_at}
use Rattle.iox_index_steps.specs.declared.call.Call.{Call}
use Rattle.iox_index_steps.specs.declared.call.Call.TheVariants as call
use Rattle.iox_index_steps.specs.declared.call.IndexCall.{IndexCall}
use Rattle.iox_index_steps.specs.declared.call.IndexCall.TheVariants.{Idle, Acquire, Follow, Take, Release, Link, Give, Done}
use Rattle.iox_index_steps.specs.declared.machine.Finished.{Finished}
use Rattle.iox_index_steps.specs.declared.machine.Move.{Move}
use Rattle.iox_index_steps.specs.declared.machine.Move.TheVariants.{Begin, GoOn}
use Rattle.iox_index_steps.specs.declared.state.Seat.{Seat}

-- The call that a party has in progress, if any.
abbrev pub call_in_hand : IndexCall → Option Call
call_in_hand Idle = None
call_in_hand (Acquire capacity) = Some call.Acquire
call_in_hand (Follow capacity word) = Some call.Acquire
call_in_hand (Take capacity word next) = Some call.Acquire
call_in_hand (Release index mode) = Some (call.Release index mode)
call_in_hand (Link index mode word) = Some (call.Release index mode)
call_in_hand (Give index mode word) = Some (call.Release index mode)
call_in_hand (Done c answer) = Some c

-- The first and the last step of a finished call.
abbrev pub span_ended : Finished → Span
span_ended f = record { party = f.party; first = f.first; last = f.last }

-- The first and the last step of each of these calls.
abbrev pub spans_ended : List Finished → List Span
spans_ended [] = []
spans_ended (f ∷ finished) = span_ended f ∷ spans_ended finished

-- The number of the first step of a party's call in progress, if any.
abbrev pub begun_at : Seat → Option ℕ
begun_at seat = if call_is_idle seat.stage then None else Some seat.first

-- Each step belongs to exactly one call.
abbrev pub StepsAreOfCalls : IndexSetState → Type 0
StepsAreOfCalls m = AreOfCalls m.events (spans_ended m.finished) (λ (party : ℕ). begun_at (seat_at m.seats party))

-- The party that makes this step.
abbrev pub party_of : Move → ℕ
party_of (Begin party c) = party
party_of (GoOn party) = party

-- The call that each party has in progress, if any.
abbrev pub hands : IndexSetState → ℕ → Option Call
hands m party = call_in_hand (stage_at m.seats party)

-- The call of a step: the one that it begins, or the one in progress.
abbrev pub call_of_step : IndexSetState → Move → Option Call
call_of_step m (Begin party c) = Some c
call_of_step m (GoOn party) = hands m party

-- Where this machine records its steps and its calls.
abbrev pub calls_of : CallsOf IndexSetState Call Finished
calls_of = record {
  events = λ (m : IndexSetState). m.events;
  finished = λ (m : IndexSetState). m.finished;
  whose = λ (f : Finished). f.party;
  which = λ (f : Finished). f.call;
  hands = hands;
}

-- A step that was made is one event of the requested party, and leaves this party in the step's call; the last step of the call finishes
-- exactly that call and leaves the party in none. All other parties keep their calls.
abbrev pub TellsStep : IndexSetState → Move → Stepped → IndexSetState → Type 0
TellsStep m step r n = TellsCalls IndexSetState Call Finished calls_of m (party_of step) (call_of_step m step) r n
