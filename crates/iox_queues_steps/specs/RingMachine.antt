-- A ring of either kind as a machine: what each step does, and its invariant.
use Rattle.std.specs.Prelude.{ℕ, ◌≡◌, ◌+◌, ◌-◌, ◌≤◌, ◌⊎◌, Bool, true, false, not, List, [], ◌∷◌, ◌++◌, map, length, replicate}
use Rattle.std.specs.List.{AllZip}
use Rattle.iox_queues_steps.specs.Access.{RingWords, answer_of, after_access}
use Rattle.iox_queues_steps.specs.Order.{Acts, after_acts, acts_of, Rises, puts, takes, push_call, pop_call, PutInside, TakeInside, Log}
use Rattle.iox_queues_steps.specs.Order.{logged}
use Rattle.iox_queues_steps.specs.Told.{Answered, Timed, own, IsWhole, InHand, Spans}
use Rattle.iox_queues_steps.specs.Ends.{overflows, cells_of, push_idle, push_begun, push_done, push_next, push_take, push_is_idle}
use Rattle.iox_queues_steps.specs.Ends.{push_is_over, push_value, push_ended, put_in_hand, placed_by_push, pop_idle, pop_begun, pop_look}
use Rattle.iox_queues_steps.specs.Ends.{pop_done, pop_asked, pop_first, pop_next, pop_take, pop_is_idle, pop_is_over, pop_looks}
use Rattle.iox_queues_steps.specs.Ends.{pop_ended, placed_by_pop, Shape}
use Rattle.iox_queues_steps.specs.declared.access.Access.TheVariants.{Local}
use Rattle.iox_queues_steps.specs.declared.order.PushCall.{PushCall}
use Rattle.iox_queues_steps.specs.declared.order.PopCall.{PopCall}
use Rattle.iox_queues_steps.specs.declared.schedule.Event.{Event}
use Rattle.iox_queues_steps.specs.declared.schedule.Party.{Party}
use Rattle.iox_queues_steps.specs.declared.schedule.Party.TheVariants.{Producer, Consumer}
use Rattle.iox_queues_steps.specs.declared.schedule.Call.TheVariants as call
use Rattle.iox_queues_steps.specs.declared.schedule.Move.{Move}
use Rattle.iox_queues_steps.specs.declared.schedule.Move.TheVariants.{Begin, GoOn}
use Rattle.iox_queues_steps.specs.declared.schedule.Stepped.{Stepped}
use Rattle.iox_queues_steps.specs.declared.schedule.Stepped.TheVariants as stepped
use Rattle.iox_queues_steps.specs.declared.rings.ends.RingKind.{RingKind}
use Rattle.iox_queues_steps.specs.declared.rings.ends.Push.{Push}
use Rattle.iox_queues_steps.specs.declared.rings.ends.Pop.{Pop}

-- The producer: the stage of its push, the first moment of this push, and its finished pushes.
pub record Pushes : Type 0 where
  pub push : Push
  pub first : ℕ
  pub calls : List PushCall

-- The consumer: the stage of its pop or look, the first moment of this call, and its finished calls.
pub record Pops : Type 0 where
  pub pop : Pop
  pub first : ℕ
  pub calls : List PopCall

-- A ring with its two ends: its kind, the maximum number of waiting numbers, the numbers that waited at the start, the words, and the log.
pub record RingState : Type 0 where
  pub kind : RingKind
  pub limit : ℕ
  pub initial : List ℕ
  pub words : RingWords
  pub producer : Pushes
  pub consumer : Pops
  pub log : Log

-- Whether a step is possible: a call may begin if its end has none in progress, and go on if its end has one.
abbrev pub fits : RingState → Move → Bool
fits m (Begin (call.Push value)) = push_is_idle m.producer.push
fits m (Begin call.Pop) = pop_is_idle m.consumer.pop
fits m (Begin call.Look) = pop_is_idle m.consumer.pop
fits m (GoOn Producer) = not (push_is_idle m.producer.push)
fits m (GoOn Consumer) = not (pop_is_idle m.consumer.pop)

-- Whether the step is the last one of its call.
abbrev pub ends : RingState → Move → Bool
ends m (Begin c) = false
ends m (GoOn Producer) = push_is_over m.producer.push
ends m (GoOn Consumer) = pop_is_over m.consumer.pop

-- The machine after the push makes its next access.
abbrev pub push_goes_on : RingState → RingState
push_goes_on m = record m {
  words = after_access m.words (push_next m.producer.push);
  producer = record {
    push = push_take m.producer.push (answer_of m.words (push_next m.producer.push));
    first = m.producer.first;
    calls = m.producer.calls ++ map (push_call m.producer.first m.log.moments) (push_ended m.producer.push);
  };
  log = logged m.log
      (record { party = Producer; access = push_next m.producer.push; answer = answer_of m.words (push_next m.producer.push) })
      (placed_by_push m.limit m.words.read m.producer.push);
}

-- The machine after the pop or look makes its next access.
abbrev pub pop_goes_on : RingState → RingState
pop_goes_on m = record m {
  words = after_access m.words (pop_next m.consumer.pop);
  consumer = record {
    pop = pop_take m.consumer.pop (answer_of m.words (pop_next m.consumer.pop));
    first = m.consumer.first;
    calls = m.consumer.calls ++ map (pop_call m.consumer.first m.log.moments) (pop_ended m.consumer.pop);
  };
  log = logged m.log
      (record { party = Consumer; access = pop_next m.consumer.pop; answer = answer_of m.words (pop_next m.consumer.pop) })
      (placed_by_pop m.words m.producer.push m.consumer.pop);
}

-- The machine after a push begins.
abbrev pub push_begins : RingState → ℕ → RingState
push_begins m value = record m {
  producer = record { push = push_begun m.kind m.limit value; first = m.log.moments; calls = m.producer.calls };
  log = logged m.log (record { party = Producer; access = Local; answer = 0 }) [];
}

-- The machine after a pop or a look begins.
abbrev pub pop_begins : RingState → Pop → RingState
pop_begins m stage = record m {
  consumer = record { pop = stage; first = m.log.moments; calls = m.consumer.calls };
  log = logged m.log (record { party = Consumer; access = Local; answer = 0 }) [];
}

-- The machine after a step that is possible.
abbrev pub happens : RingState → Move → RingState
happens m (Begin (call.Push value)) = push_begins m value
happens m (Begin call.Pop) = pop_begins m (pop_begun m.kind)
happens m (Begin call.Look) = pop_begins m (pop_look m.kind)
happens m (GoOn Producer) = push_goes_on m
happens m (GoOn Consumer) = pop_goes_on m

-- The outcome of a step, and the machine after it.
abbrev pub StepsTo : RingState → Move → Stepped → RingState → Type 0
StepsTo m step stepped.Went n = (fits m step ≡ true) × (ends m step ≡ false) × (n ≡ happens m step)
StepsTo m step stepped.Finished n = (fits m step ≡ true) × (ends m step ≡ true) × (n ≡ happens m step)
StepsTo m step stepped.Skipped n = (fits m step ≡ false) × (n ≡ m)
StepsTo m step stepped.NoMemory n = (fits m step ≡ true) × (n ≡ m)

-- A list of steps of which `made` were made and the others were skipped; it may stop where memory for a possible step runs out.
abbrev pub RunsTo : RingState → List Move → ℕ → RingState → Type 0
RunsTo m [] made n = (made ≡ 0) × (n ≡ m)
RunsTo m (step ∷ steps) made n =
    ((fits m step ≡ false) × RunsTo m steps made n)
    ⊎ (((fits m step ≡ true) × ((fewer : ℕ) × (made ≡ fewer + 1) × RunsTo (happens m step) steps fewer n))
    ⊎ ((fits m step ≡ true) × (made ≡ 0) × (n ≡ m)))

-- The end that makes this step.
abbrev pub party_of : Move → Party
party_of (Begin (call.Push value)) = Producer
party_of (Begin call.Pop) = Consumer
party_of (Begin call.Look) = Consumer
party_of (GoOn party) = party

-- A begin leaves its end at the first stage of the requested call.
abbrev pub IsAsked : Move → RingState → Type 0
IsAsked (Begin (call.Push value)) n = n.producer.push ≡ push_begun n.kind n.limit value
IsAsked (Begin call.Pop) n = n.consumer.pop ≡ pop_begun n.kind
IsAsked (Begin call.Look) n = n.consumer.pop ≡ pop_look n.kind
IsAsked (GoOn party) n = Unit {0}

-- How many calls finished.
abbrev pub ended_calls : RingState → ℕ
ended_calls m = length m.producer.calls + length m.consumer.calls

-- One event was appended, the requested end made it, and a begin left this end at the first stage of its call.
pub record IsMade (m : RingState) (step : Move) (n : RingState) : Type 0 where
  pub event : Event
  pub added : n.log.events ≡ m.log.events ++ event ∷ []
  pub party : event.party ≡ party_of step
  pub asked : IsAsked step n

-- A step that was made appended one event; the last step of a call also finished one more call.
abbrev pub Tells : RingState → Move → Stepped → RingState → Type 0
Tells m step stepped.Went n = IsMade m step n × (ended_calls n ≡ ended_calls m)
Tells m step stepped.Finished n = IsMade m step n × (ended_calls n ≡ ended_calls m + 1)
Tells m step stepped.Skipped n = n ≡ m
Tells m step stepped.NoMemory n = n ≡ m

-- The words before the first step: the list is in the first cells.
abbrev pub first_words : RingKind → ℕ → List ℕ → RingWords
first_words kind limit waiting =
    record { cells = waiting ++ replicate (cells_of kind limit - length waiting) 0; write = length waiting; read = 0 }

-- The steps of a finished push are those of a push of its value, up to its result.
abbrev pub IsPushTold : RingKind → ℕ → PushCall → List Timed → Type 0
IsPushTold kind limit call steps =
    IsWhole Push push_next push_take Producer (push_begun kind limit call.value) (push_done kind call.value call.answer) call.first
    call.last steps

-- The steps of a finished pop or look are those of a call of its kind, up to its result.
abbrev pub IsPopTold : RingKind → PopCall → List Timed → Type 0
IsPopTold kind call steps =
    IsWhole Pop pop_next pop_take Consumer (pop_asked kind call.answer) (pop_done kind call.answer) call.first call.last steps

-- The steps of the producer are those of its finished pushes, followed by those of the push in progress.
abbrev pub ArePushesTold : RingKind → ℕ → Push → ℕ → List PushCall → List Timed → Type 0
ArePushesTold kind limit push first calls steps =
    Spans (IsPushTold kind limit) (InHand Push push_next push_take Producer (push_is_idle push)
    (push_begun kind limit (push_value push)) push first) calls steps

-- The steps of the consumer are those of its finished pops and looks, followed by those of the call in progress.
abbrev pub ArePopsTold : RingKind → Pop → ℕ → List PopCall → List Timed → Type 0
ArePopsTold kind pop first calls steps =
    Spans (IsPopTold kind) (InHand Pop pop_next pop_take Consumer (pop_is_idle pop) (pop_first kind (pop_looks pop)) pop first) calls steps

-- Each moment has one event, and each event has the result that its word held then. The events of each end are those of its calls, one call
-- after another: a local one at the first moment, the accesses of the call with the results that it received, and a local one at the last
-- moment.
pub record IsTold (m : RingState) : Type 0 where
  pub counted : length m.log.events ≡ m.log.moments
  pub answered : Answered (first_words m.kind m.limit m.initial) m.log.events m.words
  pub pushes : ArePushesTold m.kind m.limit m.producer.push m.producer.first m.producer.calls (own Producer 0 m.log.events)
  pub pops : ArePopsTold m.kind m.consumer.pop m.consumer.first m.consumer.calls (own Consumer 0 m.log.events)

-- The waiting numbers according to the order so far.
abbrev pub waiting : RingState → List ℕ
waiting m = after_acts (overflows m.kind) m.limit m.initial (acts_of m.log.order)

-- The order theorem: each act has the result that the bounded list gives along the order, the moments never fall, and each push, pop and
-- look has exactly one act within it, with its result.
pub record FollowsOrder (m : RingState) : Type 0 where
  pub acts : Acts (overflows m.kind) m.limit m.initial (acts_of m.log.order)
  pub rises : Rises 0 m.log.order m.log.moments
  pub puts_match : AllZip PutInside (m.producer.calls
      ++ map (push_call m.producer.first m.log.moments) (put_in_hand m.words.read m.producer.push)) (puts m.log.order)
  pub takes_match : AllZip TakeInside (m.consumer.calls
      ++ map (pop_call m.consumer.first m.log.moments) (pop_ended m.consumer.pop)) (takes m.log.order)

-- The invariant of every step: the words hold the waiting numbers according to the order, the order theorem holds, and the events are those
-- of the calls.
pub record IsKept (m : RingState) : Type 0 where
  pub shape : Shape m.kind m.limit m.words (waiting m) m.producer.push m.consumer.pop
  pub order : FollowsOrder m
  pub told : IsTold m
  pub few : m.words.write ≤ m.log.moments + m.limit
  pub push_began : m.producer.first ≤ m.log.moments
  pub pop_began : m.consumer.first ≤ m.log.moments

-- The machine before the first step.
abbrev pub start : RingKind → ℕ → List ℕ → RingState
start kind limit waiting = record {
  kind = kind;
  limit = limit;
  initial = waiting;
  words = first_words kind limit waiting;
  producer = record { push = push_idle kind; first = 0; calls = [] };
  consumer = record { pop = pop_idle kind; first = 0; calls = [] };
  log = record { order = []; events = []; moments = 0 };
}
