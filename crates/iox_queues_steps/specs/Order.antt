-- The order of puts, takes and looks on a ring, compared with a bounded list.
use Rattle.std.specs.Prelude.{ℕ, ◌≡◌, ◌≤◌, ◌+◌, Bool, List, [], ◌∷◌, ◌++◌, length, drop, map, if◌then◌else◌, nat_lt, slice_get, slice_index}
use Rattle.iox_queues_base.specs.Waiting.{put, put_over}
use Rattle.iox_queues_steps.specs.declared.order.PushAnswer.{PushAnswer}
use Rattle.iox_queues_steps.specs.declared.order.PushAnswer.TheVariants.{Kept, LeftOut, Refused}
use Rattle.iox_queues_steps.specs.declared.order.PopAnswer.{PopAnswer}
use Rattle.iox_queues_steps.specs.declared.order.PopAnswer.TheVariants.{Got, Saw}
use Rattle.iox_queues_steps.specs.declared.order.Act.{Act}
use Rattle.iox_queues_steps.specs.declared.order.Act.TheVariants.{Put, Take}
use Rattle.iox_queues_steps.specs.declared.order.Placed.{Placed}
use Rattle.iox_queues_steps.specs.declared.order.PushCall.{PushCall}
use Rattle.iox_queues_steps.specs.declared.order.PopCall.{PopCall}
use Rattle.iox_queues_steps.specs.declared.schedule.Event.{Event}

-- The result of a put: on a full list the oldest number is removed if the queue overflows, else the put is refused.
abbrev pub put_answer : Bool → ℕ → List ℕ → ℕ → PushAnswer
put_answer overflows limit waiting value =
    if nat_lt (length waiting) limit
    then Kept
    else (if overflows then LeftOut (slice_index (waiting ++ value ∷ []) 0) else Refused)

-- The list after a put.
abbrev pub after_put : Bool → ℕ → List ℕ → ℕ → List ℕ
after_put overflows limit waiting value =
    if overflows then put_over limit waiting value else put limit waiting value

-- A take returns the oldest number, if one waits; a look returns whether one waits.
abbrev pub IsTaken : List ℕ → PopAnswer → Type 0
IsTaken waiting (Got got) = got ≡ slice_get waiting 0
IsTaken waiting (Saw some) = some ≡ nat_lt 0 (length waiting)

-- The list after a take or a look.
abbrev pub after_take : List ℕ → PopAnswer → List ℕ
after_take waiting (Got got) = drop 1 waiting
after_take waiting (Saw some) = waiting

-- The result of one act is that of the bounded list.
abbrev pub IsAnswered : Bool → ℕ → List ℕ → Act → Type 0
IsAnswered overflows limit waiting (Put value answer) = answer ≡ put_answer overflows limit waiting value
IsAnswered overflows limit waiting (Take answer) = IsTaken waiting answer

-- The list after one act.
abbrev pub after_act : Bool → ℕ → List ℕ → Act → List ℕ
after_act overflows limit waiting (Put value answer) = after_put overflows limit waiting value
after_act overflows limit waiting (Take answer) = after_take waiting answer

-- Each act of the order has the result that the bounded list gives, one after another.
abbrev pub Acts : Bool → ℕ → List ℕ → List Act → Type 0
Acts overflows limit waiting [] = Unit {0}
Acts overflows limit waiting (act ∷ acts) =
    IsAnswered overflows limit waiting act × Acts overflows limit (after_act overflows limit waiting act) acts

-- The list after all acts of the order.
abbrev pub after_acts : Bool → ℕ → List ℕ → List Act → List ℕ
after_acts overflows limit waiting [] = waiting
after_acts overflows limit waiting (act ∷ acts) =
    after_acts overflows limit (after_act overflows limit waiting act) acts

-- The acts of an order, without their moments.
abbrev pub acts_of : List Placed → List Act
acts_of [] = []
acts_of (placed ∷ order) = placed.act ∷ acts_of order

-- Acts that take effect at one moment.
abbrev pub at : ℕ → List Act → List Placed
at moment [] = []
at moment (act ∷ acts) = record { act = act; moment = moment } ∷ at moment acts

-- The moments never fall, and lie between `low` and `high`.
abbrev pub Rises : ℕ → List Placed → ℕ → Type 0
Rises low [] high = low ≤ high
Rises low (placed ∷ order) high = (low ≤ placed.moment) × Rises placed.moment order high

-- A put with its result, without a moment.
pub record PutNow : Type 0 where
  pub value : ℕ
  pub answer : PushAnswer

-- The put of one act, if it is a put.
abbrev pub put_of : Act → List PutNow
put_of (Put value answer) = record { value = value; answer = answer } ∷ []
put_of (Take answer) = []

-- The result of one act, if it is a take or a look.
abbrev pub take_of : Act → List PopAnswer
take_of (Put value answer) = []
take_of (Take answer) = answer ∷ []

-- The puts among some acts.
abbrev pub put_values : List Act → List PutNow
put_values [] = []
put_values (act ∷ acts) = put_of act ++ put_values acts

-- The results of the takes and looks among some acts.
abbrev pub take_values : List Act → List PopAnswer
take_values [] = []
take_values (act ∷ acts) = take_of act ++ take_values acts

-- A finished push with its first and its last moment.
abbrev pub push_call : ℕ → ℕ → PutNow → PushCall
push_call first last put = record { value = put.value; answer = put.answer; first = first; last = last }

-- A finished pop or look with its first and its last moment.
abbrev pub pop_call : ℕ → ℕ → PopAnswer → PopCall
pop_call first last answer = record { answer = answer; first = first; last = last }

-- The puts of an order, each as a call that lasts one moment.
abbrev pub puts : List Placed → List PushCall
puts [] = []
puts (placed ∷ order) = map (push_call placed.moment placed.moment) (put_of placed.act) ++ puts order

-- The takes and looks of an order, each as a call that lasts one moment.
abbrev pub takes : List Placed → List PopCall
takes [] = []
takes (placed ∷ order) = map (pop_call placed.moment placed.moment) (take_of placed.act) ++ takes order

-- A moment lies between the first and the last moment of a call.
pub record IsInside (first last moment : ℕ) : Type 0 where
  pub begun : first ≤ moment
  pub not_ended : moment ≤ last

-- A put has the value and the result of its push.
pub record IsPutOf (call : PushCall) (put : PushCall) : Type 0 where
  pub same_value : call.value ≡ put.value
  pub same_answer : call.answer ≡ put.answer

-- A take or a look has the result of its call.
pub record IsTakeOf (call : PopCall) (take : PopCall) : Type 0 where
  pub same_answer : call.answer ≡ take.answer

-- A put takes effect within its push, with the push's result.
pub record PutInside (call : PushCall) (put : PushCall) : Type 0 where
  pub answer : IsPutOf call put
  pub inside : IsInside call.first call.last put.first

-- A take or a look takes effect within its call, with the call's result.
pub record TakeInside (call : PopCall) (take : PopCall) : Type 0 where
  pub answer : IsTakeOf call take
  pub inside : IsInside call.first call.last take.first

-- The log of a machine: the order of acts, the steps made, and how many steps there were.
pub record Log : Type 0 where
  pub order : List Placed
  pub events : List Event
  pub moments : ℕ

-- The log after one more step, with the acts that take effect at it.
abbrev pub logged : Log → Event → List Act → Log
logged log event acts = record {
  order = log.order ++ at log.moments acts;
  events = log.events ++ event ∷ [];
  moments = log.moments + 1;
}
