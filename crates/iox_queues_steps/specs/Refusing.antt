-- The steps of a push and of a pop on the refusing ring, by the stage of each.
use Rattle.std.specs.Prelude.{ℕ, ◌+◌, ◌-◌, ◌<◌, ◌≤◌, ◌≡◌, ◌%◌, ◌^◌, Bool, true, false, not, if◌then◌else◌, ◌==◌, nat_lt, Some, None, List}
use Rattle.std.specs.Prelude.{[], ◌∷◌, length, slice_index}
use Rattle.iox_queues_steps.specs.Access.{RingWords, successor}
use Rattle.iox_queues_steps.specs.Order.{PutNow}
use Rattle.iox_queues_steps.specs.Kept.{Held}
use Rattle.iox_queues_steps.specs.declared.access.Word.TheVariants.{Write, Read, Cell}
use Rattle.iox_queues_steps.specs.declared.access.Access.{Access}
use Rattle.iox_queues_steps.specs.declared.access.Access.TheVariants.{Load, Store, Local}
use Rattle.iox_queues_steps.specs.declared.order.PushAnswer.TheVariants.{Kept, Refused}
use Rattle.iox_queues_steps.specs.declared.order.PopAnswer.{PopAnswer}
use Rattle.iox_queues_steps.specs.declared.order.PopAnswer.TheVariants.{Got, Saw}
use Rattle.iox_queues_steps.specs.declared.order.Act.{Act}
use Rattle.iox_queues_steps.specs.declared.order.Act.TheVariants.{Put, Take}
use Rattle.iox_queues_steps.specs.declared.rings.refusing.push.Push.{Push}
use Rattle.iox_queues_steps.specs.declared.rings.refusing.push.Push.TheVariants as push
use Rattle.iox_queues_steps.specs.declared.rings.refusing.pop.Pop.{Pop}
use Rattle.iox_queues_steps.specs.declared.rings.refusing.pop.Pop.TheVariants as pop

-- The next access of a push.
abbrev pub push_next : Push → Access
push_next push.Idle = Local
push_next (push.Begun limit value) = Load Write
push_next (push.SawWrite limit value write next) = Load Read
push_next (push.SawRoom value write next) = Store (Cell write) value
push_next (push.Filled value next) = Store Write next
push_next (push.Pushed value answer) = Local

-- The stage after the load of the read position: the push is refused if the ring is full.
abbrev pub push_measured : ℕ → ℕ → ℕ → ℕ → ℕ → Push
push_measured limit value write next read =
    if nat_lt (write - read) limit then push.SawRoom value write next else push.Pushed value Refused

-- The stage of a push after the result of its access.
abbrev pub push_take : Push → ℕ → Push
push_take push.Idle answer = push.Idle
push_take (push.Begun limit value) answer = push.SawWrite limit value answer (successor answer)
push_take (push.SawWrite limit value write next) answer = push_measured limit value write next answer
push_take (push.SawRoom value write next) answer = push.Filled value next
push_take (push.Filled value next) answer = push.Pushed value Kept
push_take (push.Pushed value answered) answer = push.Idle

-- The next access of a pop or a look.
abbrev pub pop_next : Pop → Access
pop_next pop.Idle = Local
pop_next pop.Begun = Load Read
pop_next (pop.SawRead read) = Load Write
pop_next (pop.Nonempty read next) = Load (Cell read)
pop_next (pop.SawCell next value) = Store Read next
pop_next (pop.Popped got) = Local
pop_next pop.LookBegun = Load Read
pop_next (pop.LookRead read) = Load Write
pop_next (pop.Looked some) = Local

-- The stage after the load of the write position: equal positions end the pop with no number.
abbrev pub pop_emptied : Bool → ℕ → Pop
pop_emptied empty read = if empty then pop.Popped None else pop.Nonempty read (successor read)

-- The stage of a pop or a look after the result of its access.
abbrev pub pop_take : Pop → ℕ → Pop
pop_take pop.Idle answer = pop.Idle
pop_take pop.Begun answer = pop.SawRead answer
pop_take (pop.SawRead read) answer = pop_emptied (answer == read) read
pop_take (pop.Nonempty read next) answer = pop.SawCell next answer
pop_take (pop.SawCell next value) answer = pop.Popped (Some value)
pop_take (pop.Popped got) answer = pop.Idle
pop_take pop.LookBegun answer = pop.LookRead answer
pop_take (pop.LookRead read) answer = pop.Looked (not (answer == read))
pop_take (pop.Looked some) answer = pop.Idle

-- Whether no push is in progress.
abbrev pub push_is_idle : Push → Bool
push_is_idle push.Idle = true
push_is_idle other = false

-- Whether no pop or look is in progress.
abbrev pub pop_is_idle : Pop → Bool
pop_is_idle pop.Idle = true
pop_is_idle other = false

-- Whether the next step of this push is its last one.
abbrev pub push_is_over : Push → Bool
push_is_over (push.Pushed value answer) = true
push_is_over other = false

-- Whether the next step of this pop or look is its last one.
abbrev pub pop_is_over : Pop → Bool
pop_is_over (pop.Popped got) = true
pop_is_over (pop.Looked some) = true
pop_is_over other = false

-- The number that a push puts.
abbrev pub push_value : Push → ℕ
push_value push.Idle = 0
push_value (push.Begun limit value) = value
push_value (push.SawWrite limit value write next) = value
push_value (push.SawRoom value write next) = value
push_value (push.Filled value next) = value
push_value (push.Pushed value answer) = value

-- Whether the call is a look and not a pop.
abbrev pub pop_looks : Pop → Bool
pop_looks pop.LookBegun = true
pop_looks (pop.LookRead seen) = true
pop_looks (pop.Looked some) = true
pop_looks other = false

-- The put that takes effect at the next step: a kept put at its store of the write position, a refused one at its load of the read
-- position.
abbrev pub placed_by_push : ℕ → Push → List Act
placed_by_push read push.Idle = []
placed_by_push read (push.Begun limit value) = []
placed_by_push read (push.SawWrite limit value write next) =
    if nat_lt (write - read) limit then [] else Put value Refused ∷ []
placed_by_push read (push.SawRoom value write next) = []
placed_by_push read (push.Filled value next) = Put value Kept ∷ []
placed_by_push read (push.Pushed value answer) = []

-- The take or look that takes effect at the next step: a take at its store of the read position, a call that takes nothing at its load of
-- the write position.
abbrev pub placed_by_pop : ℕ → Pop → List Act
placed_by_pop write pop.Idle = []
placed_by_pop write pop.Begun = []
placed_by_pop write (pop.SawRead seen) = if write == seen then Take (Got None) ∷ [] else []
placed_by_pop write (pop.Nonempty seen next) = []
placed_by_pop write (pop.SawCell next value) = Take (Got (Some value)) ∷ []
placed_by_pop write (pop.Popped got) = []
placed_by_pop write pop.LookBegun = []
placed_by_pop write (pop.LookRead seen) = Take (Saw (not (write == seen))) ∷ []
placed_by_pop write (pop.Looked some) = []

-- The put of a push that finishes with its next step, if it does; the put took effect already.
abbrev pub push_ended : Push → List PutNow
push_ended push.Idle = []
push_ended (push.Begun limit value) = []
push_ended (push.SawWrite limit value write next) = []
push_ended (push.SawRoom value write next) = []
push_ended (push.Filled value next) = []
push_ended (push.Pushed value answer) = record { value = value; answer = answer } ∷ []

-- The result of a pop or a look that finishes with its next step, if it does; the call took effect already.
abbrev pub pop_ended : Pop → List PopAnswer
pop_ended pop.Idle = []
pop_ended pop.Begun = []
pop_ended (pop.SawRead seen) = []
pop_ended (pop.Nonempty seen next) = []
pop_ended (pop.SawCell next value) = []
pop_ended (pop.Popped got) = Got got ∷ []
pop_ended pop.LookBegun = []
pop_ended (pop.LookRead seen) = []
pop_ended (pop.Looked some) = Saw some ∷ []

-- The number of cells of a ring: at least one, which is never used if the limit is 0.
abbrev pub cells_of : ℕ → ℕ
cells_of limit = if nat_lt 0 limit then limit else 1

-- What is known of a push at each stage.
abbrev pub PushKnows : ℕ → RingWords → List ℕ → Push → Type 0
PushKnows limit words q push.Idle = Unit {0}
PushKnows limit words q (push.Begun l value) = l ≡ limit
PushKnows limit words q (push.SawWrite l value write next) = (l ≡ limit) × (write ≡ words.write) × (next ≡ write + 1)
PushKnows limit words q (push.SawRoom value write next) =
    (write ≡ words.write) × (next ≡ write + 1) × (length q < limit)
PushKnows limit words q (push.Filled value next) =
    (next ≡ words.write + 1) × (length q < limit)
    × (slice_index words.cells (words.write % length words.cells) ≡ value)
PushKnows limit words q (push.Pushed value answer) = Unit {0}

-- What is known of a pop or a look at each stage.
abbrev pub PopKnows : ℕ → List ℕ → Pop → Type 0
PopKnows read q pop.Idle = Unit {0}
PopKnows read q pop.Begun = Unit {0}
PopKnows read q (pop.SawRead seen) = seen ≡ read
PopKnows read q (pop.Nonempty seen next) = (seen ≡ read) × (0 < length q) × (next ≡ seen + 1)
PopKnows read q (pop.SawCell next value) = (next ≡ read + 1) × (0 < length q) × (value ≡ slice_index q 0)
PopKnows read q (pop.Popped got) = Unit {0}
PopKnows read q pop.LookBegun = Unit {0}
PopKnows read q (pop.LookRead seen) = seen ≡ read
PopKnows read q (pop.Looked some) = Unit {0}

-- The words, the waiting list according to the order so far, and the stages of both ends are consistent.
pub record Shape (limit : ℕ) (words : RingWords) (q : List ℕ) (push : Push) (pop : Pop) : Type 0 where
  pub small : limit < 2 ^ 62
  pub some : 0 < length words.cells
  pub wide : limit ≤ length words.cells
  pub room : length q ≤ limit
  pub level : words.read + length q ≡ words.write
  pub held : Held (length words.cells) words.cells words.read q
  pub push_knows : PushKnows limit words q push
  pub pop_knows : PopKnows words.read q pop
