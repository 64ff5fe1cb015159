-- The overflowing ring step by step: when puts and takes take effect, and the invariant of each step.
use Rattle.std.specs.Prelude.{ℕ, ◌≡◌, ◌+◌, ◌-◌, ◌^◌, ◌%◌, ◌<◌, ◌≤◌, Bool, false, not, if◌then◌else◌, ◌==◌, nat_lt, Some, None, List, []}
use Rattle.std.specs.Prelude.{◌∷◌, ◌++◌, length, slice_index}
use Rattle.iox_queues_steps.specs.Access.{RingWords}
use Rattle.iox_queues_steps.specs.Order.{PutNow}
use Rattle.iox_queues_steps.specs.Kept.{Held}
use Rattle.iox_queues_steps.specs.declared.order.PushAnswer.TheVariants.{Kept, LeftOut}
use Rattle.iox_queues_steps.specs.declared.order.PopAnswer.{PopAnswer}
use Rattle.iox_queues_steps.specs.declared.order.PopAnswer.TheVariants.{Got, Saw}
use Rattle.iox_queues_steps.specs.declared.order.Act.{Act}
use Rattle.iox_queues_steps.specs.declared.order.Act.TheVariants.{Put, Take}
use Rattle.iox_queues_steps.specs.declared.rings.overflowing.push.Push.{Push}
use Rattle.iox_queues_steps.specs.declared.rings.overflowing.push.Push.TheVariants as push
use Rattle.iox_queues_steps.specs.declared.rings.overflowing.pop.Pop.{Pop}
use Rattle.iox_queues_steps.specs.declared.rings.overflowing.pop.Pop.TheVariants as pop

-- The put that takes effect at the next step of a push, if one does. A put takes effect at the store of the write position, or, if
-- this store leaves more than `limit` numbers unread, at the next move of the read position.
abbrev pub placed_by_push : ℕ → ℕ → Push → List Act
placed_by_push limit read push.Idle = []
placed_by_push limit read (push.Begun l value) = []
placed_by_push limit read (push.SawWrite l value write next) = []
placed_by_push limit read (push.SawRead l value write next seen) = []
placed_by_push limit read (push.Filled l value write next seen) =
    if nat_lt limit (next - read) then [] else Put value Kept ∷ []
placed_by_push limit read (push.Full value seen next) = []
placed_by_push limit read (push.SawOldest value seen next oldest) =
    if read == seen then Put value (LeftOut oldest) ∷ [] else []
placed_by_push limit read (push.Pushed value answer) = []

-- The put that takes effect at the next move of the read position, if there is one.
abbrev pub late_put : ℕ → Push → List Act
late_put read push.Idle = []
late_put read (push.Begun l value) = []
late_put read (push.SawWrite l value write next) = []
late_put read (push.SawRead l value write next seen) = []
late_put read (push.Filled l value write next seen) = []
late_put read (push.Full value seen next) = if read == seen then Put value Kept ∷ [] else []
late_put read (push.SawOldest value seen next oldest) = if read == seen then Put value Kept ∷ [] else []
late_put read (push.Pushed value answer) = []

-- The take or look that takes effect at the next step: a take at its move of the read position, a call that takes nothing at its load of
-- the write position.
abbrev pub taken_by_pop : ℕ → ℕ → Pop → List Act
taken_by_pop write read pop.Idle = []
taken_by_pop write read pop.Begun = []
taken_by_pop write read (pop.SawRead seen) = if write == seen then Take (Got None) ∷ [] else []
taken_by_pop write read (pop.Nonempty seen next) = []
taken_by_pop write read (pop.SawCell seen next value) =
    if read == seen then Take (Got (Some value)) ∷ [] else []
taken_by_pop write read (pop.Popped got) = []
taken_by_pop write read pop.LookBegun = []
taken_by_pop write read (pop.LookRead seen) = Take (Saw (not (write == seen))) ∷ []
taken_by_pop write read (pop.Looked waiting) = []

-- Whether this step of the pop moves the read position.
abbrev pub pop_moves : ℕ → Pop → Bool
pop_moves read pop.Idle = false
pop_moves read pop.Begun = false
pop_moves read (pop.SawRead seen) = false
pop_moves read (pop.Nonempty seen next) = false
pop_moves read (pop.SawCell seen next value) = read == seen
pop_moves read (pop.Popped got) = false
pop_moves read pop.LookBegun = false
pop_moves read (pop.LookRead seen) = false
pop_moves read (pop.Looked waiting) = false

-- The acts that take effect at a step of a pop: first its take, then the put that the move of the read position makes effective.
abbrev pub placed_by_pop : RingWords → Push → Pop → List Act
placed_by_pop words push pop =
    taken_by_pop words.write words.read pop ++ (if pop_moves words.read pop then late_put words.read push else [])

-- The put of a push that isn't finished and whose put took effect already, if there is one.
abbrev pub put_in_hand : ℕ → Push → List PutNow
put_in_hand read push.Idle = []
put_in_hand read (push.Begun l value) = []
put_in_hand read (push.SawWrite l value write next) = []
put_in_hand read (push.SawRead l value write next seen) = []
put_in_hand read (push.Filled l value write next seen) = []
put_in_hand read (push.Full value seen next) =
    if read == seen then [] else record { value = value; answer = Kept } ∷ []
put_in_hand read (push.SawOldest value seen next oldest) =
    if read == seen then [] else record { value = value; answer = Kept } ∷ []
put_in_hand read (push.Pushed value answer) = record { value = value; answer = answer } ∷ []

-- The put of a push that finishes with its next step, if it does.
abbrev pub push_ended : Push → List PutNow
push_ended push.Idle = []
push_ended (push.Begun l value) = []
push_ended (push.SawWrite l value write next) = []
push_ended (push.SawRead l value write next seen) = []
push_ended (push.Filled l value write next seen) = []
push_ended (push.Full value seen next) = []
push_ended (push.SawOldest value seen next oldest) = []
push_ended (push.Pushed value answer) = record { value = value; answer = answer } ∷ []

-- The result of a pop or a look that finishes with its next step, if it does.
abbrev pub pop_ended : Pop → List PopAnswer
pop_ended pop.Idle = []
pop_ended pop.Begun = []
pop_ended (pop.SawRead seen) = []
pop_ended (pop.Nonempty seen next) = []
pop_ended (pop.SawCell seen next value) = []
pop_ended (pop.Popped got) = Got got ∷ []
pop_ended pop.LookBegun = []
pop_ended (pop.LookRead seen) = []
pop_ended (pop.Looked waiting) = Saw waiting ∷ []

-- The distance of the positions is the length of the list.
abbrev pub IsLevel : RingWords → List ℕ → Type 0
IsLevel words q = words.read + length q ≡ words.write

-- A push stored its write position and may have exceeded the limit by one: until the read position moves from where the push saw it,
-- the push's number is in the cell that follows those of the list.
pub record IsLate (limit : ℕ) (words : RingWords) (q : List ℕ) (value : ℕ) (seen : ℕ) : Type 0 where
  pub written : words.write ≡ seen + limit + 1
  pub seen_before : seen ≤ words.read
  pub moved : seen < words.read → words.read + length q ≡ words.write
  pub full : seen ≡ words.read → length q ≡ limit
  pub behind : seen ≡ words.read → slice_index words.cells ((words.read + limit) % (limit + 1)) ≡ value

-- What is known of a push at each stage.
abbrev pub PushKnows : ℕ → RingWords → List ℕ → Push → Type 0
PushKnows limit words q push.Idle = IsLevel words q
PushKnows limit words q (push.Begun l value) = IsLevel words q × (l ≡ limit)
PushKnows limit words q (push.SawWrite l value write next) =
    IsLevel words q × (l ≡ limit) × (write ≡ words.write) × (next ≡ write + 1)
PushKnows limit words q (push.SawRead l value write next seen) =
    IsLevel words q × (l ≡ limit) × (write ≡ words.write) × (next ≡ write + 1) × (seen ≤ words.read) × (write ≤ seen + limit)
PushKnows limit words q (push.Filled l value write next seen) =
    IsLevel words q × (l ≡ limit) × (write ≡ words.write) × (next ≡ write + 1) × (seen ≤ words.read) × (write ≤ seen + limit)
    × (slice_index words.cells (write % (limit + 1)) ≡ value)
PushKnows limit words q (push.Full value seen next) = IsLate limit words q value seen × (next ≡ seen + 1)
PushKnows limit words q (push.SawOldest value seen next oldest) =
    IsLate limit words q value seen × (next ≡ seen + 1) × (seen ≡ words.read → oldest ≡ slice_index q 0)
PushKnows limit words q (push.Pushed value answer) = IsLevel words q

-- A read position that was seen before: if the actual one has moved on since, a number waits.
abbrev pub WasRead : ℕ → List ℕ → ℕ → Type 0
WasRead read q seen = (seen ≤ read) × (seen < read → 0 < length q)

-- What is known of a pop or a look at each stage.
abbrev pub PopKnows : ℕ → List ℕ → Pop → Type 0
PopKnows read q pop.Idle = Unit {0}
PopKnows read q pop.Begun = Unit {0}
PopKnows read q (pop.SawRead seen) = WasRead read q seen
PopKnows read q (pop.Nonempty seen next) = (seen ≤ read) × (0 < length q) × (next ≡ seen + 1)
PopKnows read q (pop.SawCell seen next value) =
    (seen ≤ read) × (0 < length q) × (next ≡ seen + 1) × (seen ≡ read → value ≡ slice_index q 0)
PopKnows read q (pop.Popped got) = Unit {0}
PopKnows read q pop.LookBegun = Unit {0}
PopKnows read q (pop.LookRead seen) = WasRead read q seen
PopKnows read q (pop.Looked waiting) = Unit {0}

-- The words, the waiting list according to the order so far, and the stages of both ends are consistent.
pub record Shape (limit : ℕ) (words : RingWords) (q : List ℕ) (push : Push) (pop : Pop) : Type 0 where
  pub some : 0 < limit
  pub small : limit < 2 ^ 62
  pub size : length words.cells ≡ limit + 1
  pub room : length q ≤ limit
  pub held : Held (limit + 1) words.cells words.read q
  pub push_knows : PushKnows limit words q push
  pub pop_knows : PopKnows words.read q pop
