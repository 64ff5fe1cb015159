-- What the recorded steps say of the calls on a set, and of the set's places.
use Rattle.std.specs.Prelude.{ℕ, ◌≡◌, ◌+◌, ◌<◌, Bool, true, false, if◌then◌else◌, Option, Some, None, List, [], ◌∷◌}
use Rattle.std.specs.Prelude.{length, slice_index, take, drop}
use Rattle.iox_queues_steps.specs.Access.{RingWords, after_access}
use Rattle.iox_queues_steps.specs.declared.schedule.Stepped.{Stepped}
use Rattle.iox_queues.specs.Steps.{call_begun, call_is_idle, call_next, call_take}
use Rattle.iox_queues.specs.Sums.{raised_by, taken_by}
use Rattle.iox_queues.specs.Told.{own}
use Rattle.iox_queues.specs.Recorded.{Answered, IsAskedFrom, LiesWithin}
use Rattle.iox_queues.specs.Spans.{AreOfCalls, Span}
use Rattle.iox_queues.specs.Turns.{CallsOf, TellsCalls}
use Rattle.iox_queues.specs.Machine.{SetState, seat_at, stage_at, start_words}
use Rattle.iox_queues.specs.declared.bits.call.Call.{Call}
use Rattle.iox_queues.specs.declared.bits.call.Call.TheVariants as call
use Rattle.iox_queues.specs.declared.bits.call.SetCall.{SetCall}
use Rattle.iox_queues.specs.declared.bits.call.SetCall.TheVariants.{Idle, Add, Adding, Next, Sweep, Taking, Found, Done}
use Rattle.iox_queues.specs.declared.bits.machine.Event.{Event}
use Rattle.iox_queues.specs.declared.bits.machine.Finished.{Finished}
use Rattle.iox_queues.specs.declared.bits.machine.Move.{Move}
use Rattle.iox_queues.specs.declared.bits.machine.Move.TheVariants.{Begin, GoOn}
use Rattle.iox_queues.specs.declared.bits.state.Seat.{Seat}

-- The call that scans the places: it resets all of them, or one.
abbrev pub sweeping_call : Bool → Call
sweeping_call true = call.ResetAll
sweeping_call false = call.ResetNext

-- The call that a party has in progress, if any.
abbrev pub call_in_hand : SetCall → Option Call
call_in_hand Idle = None
call_in_hand (Add place max) = Some (call.Set place)
call_in_hand (Adding place max count) = Some (call.Set place)
call_in_hand (Next capacity) = Some call.ResetNext
call_in_hand (Sweep place left capacity all) = Some (sweeping_call all)
call_in_hand (Taking place left capacity all count) = Some (sweeping_call all)
call_in_hand (Found place after) = Some call.ResetNext
call_in_hand (Done c answer) = Some c

-- The steps of a call up to a stage: a local one that begins it, and the accesses that the call requested.
abbrev pub IsAsked : ℕ → ℕ → ℕ → Call → SetCall → List Event → Type 0
IsAsked max n party c stage events = IsAskedFrom SetCall call_next call_take party (call_begun max n c) stage events

-- The steps of the call in progress, if there is one, up to its stage.
abbrev pub IsAskedSoFar : ℕ → ℕ → ℕ → Option Call → SetCall → List Event → Type 0
IsAskedSoFar max n party None stage events = Unit {0}
IsAskedSoFar max n party (Some c) stage events = IsAsked max n party c stage events

-- The steps of each finished call, up to its result.
abbrev pub AreAsked : ℕ → ℕ → List Event → List Finished → Type 0
AreAsked max n events [] = Unit {0}
AreAsked max n events (f ∷ finished) =
    IsAsked max n f.party f.call (Done f.call f.answer) (own f.party (drop f.first (take f.last events)))
    × AreAsked max n events finished

-- Each of these calls lies within the steps made.
abbrev pub LieWithin : List Event → List Finished → Type 0
LieWithin events [] = Unit {0}
LieWithin events (f ∷ finished) = LiesWithin events f.first f.last × LieWithin events finished

-- What the recorded steps say: each has the result that its word held, and they leave the words as they are now; each finished call lies
-- within them; and the steps of each call, finished or in progress, are those that the call requested.
pub record IsRecorded (m : SetState) : Type 0 where
  pub answered : Answered (start_words (length m.words.cells)) m.events m.words
  pub among : LieWithin m.events m.finished
  pub ended : AreAsked m.max (length m.words.cells) m.events m.finished
  pub going : (party : ℕ) → IsAskedSoFar m.max (length m.words.cells) party (call_in_hand (stage_at m.seats party))
      (stage_at m.seats party) (own party (drop (seat_at m.seats party).first m.events))

-- The first and the last step of a finished call.
abbrev pub span_ended : Finished → Span
span_ended f = record { party = f.party; first = f.first; last = f.last }

-- The first and the last step of each of these calls.
abbrev pub spans_ended : List Finished → List Span
spans_ended [] = []
spans_ended (f ∷ finished) = span_ended f ∷ spans_ended finished

-- The number of the first step of a party's call in progress, if any.
abbrev pub begun_at : Seat → Option ℕ
begun_at seat = if call_is_idle seat.stage then None else Some seat.first

-- Each step belongs to exactly one call.
abbrev pub StepsAreOfCalls : SetState → Type 0
StepsAreOfCalls m = AreOfCalls m.events (spans_ended m.finished) (λ (party : ℕ). begun_at (seat_at m.seats party))

-- How one step changes the count of a place from `before` to `after`: if it raises the count, to one more; if it takes the count out, to 0;
-- else not at all.
pub record ChangesBy (raised taken before after : ℕ) : Type 0 where
  pub raises : 0 < raised → after ≡ before + 1
  pub takes : 0 < taken → (before ≡ taken) × (after ≡ 0)
  pub stays : raised ≡ 0 → taken ≡ 0 → after ≡ before

-- One step changes the count of each of `n` places as its access says.
abbrev pub ChangesPlaces : ℕ → RingWords → Event → Type 0
ChangesPlaces n words event = (i : ℕ) → i < n
    → ChangesBy (raised_by n i event.access event.answer) (taken_by n i event.access event.answer) (slice_index words.cells i)
    (slice_index (after_access words event.access).cells i)

-- Each of these steps, made one after another from these words, changes the counts of `n` places as its access says.
abbrev pub EachChanges : ℕ → RingWords → List Event → Type 0
EachChanges n words [] = Unit {0}
EachChanges n words (event ∷ events) =
    ChangesPlaces n words event × EachChanges n (after_access words event.access) events

-- The count of a place changes at exactly those steps that raise it by one or take it out.
abbrev pub ChangesByActs : SetState → Type 0
ChangesByActs m = EachChanges (length m.words.cells) (start_words (length m.words.cells)) m.events

-- The party that makes this step.
abbrev pub party_of : Move → ℕ
party_of (Begin party c) = party
party_of (GoOn party) = party

-- The call that each party has in progress, if any.
abbrev pub hands : SetState → ℕ → Option Call
hands m party = call_in_hand (stage_at m.seats party)

-- The call of a step: the one that it begins, or the one in progress.
abbrev pub call_of_step : SetState → Move → Option Call
call_of_step m (Begin party c) = Some c
call_of_step m (GoOn party) = hands m party

-- Where this machine records its steps and its calls.
abbrev pub calls_of : CallsOf SetState Call Finished
calls_of = record {
  events = λ (m : SetState). m.events;
  finished = λ (m : SetState). m.finished;
  whose = λ (f : Finished). f.party;
  which = λ (f : Finished). f.call;
  hands = hands;
}

-- A step that was made is one event of the requested party, and leaves this party in the step's call; the last step of the call finishes
-- exactly that call and leaves the party in none. All other parties keep their calls.
abbrev pub TellsStep : SetState → Move → Stepped → SetState → Type 0
TellsStep m step r n = TellsCalls SetState Call Finished calls_of m (party_of step) (call_of_step m step) r n
