-- The two ends of a ring of either kind, by the stage of each.
use Rattle.std.specs.Prelude.{ℕ, ◌+◌, ◌++◌, Bool, true, false, if◌then◌else◌, List, []}
use Rattle.iox_queues_steps.specs.Access.{RingWords}
use Rattle.iox_queues_steps.specs.Order.{PutNow}
use Rattle.iox_queues_steps.specs.declared.access.Access.{Access}
use Rattle.iox_queues_steps.specs.declared.order.PushAnswer.{PushAnswer}
use Rattle.iox_queues_steps.specs.declared.order.PopAnswer.{PopAnswer}
use Rattle.iox_queues_steps.specs.declared.order.PopAnswer.TheVariants.{Got, Saw}
use Rattle.iox_queues_steps.specs.declared.order.Act.{Act}
use Rattle.iox_queues_steps.specs.Overflowing as overflowing
use Rattle.iox_queues_steps.specs.OverflowingRing as overflowing_ring
use Rattle.iox_queues_steps.specs.declared.rings.overflowing.push.Push.TheVariants as overflowing_push
use Rattle.iox_queues_steps.specs.declared.rings.overflowing.pop.Pop.TheVariants as overflowing_pop
use Rattle.iox_queues_steps.specs.Refusing as refusing
use Rattle.iox_queues_steps.specs.declared.rings.refusing.push.Push.TheVariants as refusing_push
use Rattle.iox_queues_steps.specs.declared.rings.refusing.pop.Pop.TheVariants as refusing_pop
use Rattle.iox_queues_steps.specs.declared.rings.ends.RingKind.{RingKind}
use Rattle.iox_queues_steps.specs.declared.rings.ends.RingKind.TheVariants as kind
use Rattle.iox_queues_steps.specs.declared.rings.ends.Push.{Push}
use Rattle.iox_queues_steps.specs.declared.rings.ends.Push.TheVariants as push
use Rattle.iox_queues_steps.specs.declared.rings.ends.Pop.{Pop}
use Rattle.iox_queues_steps.specs.declared.rings.ends.Pop.TheVariants as pop

-- Whether a full ring removes its oldest number.
abbrev pub overflows : RingKind → Bool
overflows kind.Overflowing = true
overflows kind.Refusing = false

-- How many cells a ring has.
abbrev pub cells_of : RingKind → ℕ → ℕ
cells_of kind.Overflowing limit = limit + 1
cells_of kind.Refusing limit = refusing.cells_of limit

-- The kind of the ring that a push is on.
abbrev pub push_kind : Push → RingKind
push_kind (push.Overflowing p) = kind.Overflowing
push_kind (push.Refusing p) = kind.Refusing

-- The kind of the ring that a pop or a look is on.
abbrev pub pop_kind : Pop → RingKind
pop_kind (pop.Overflowing p) = kind.Overflowing
pop_kind (pop.Refusing p) = kind.Refusing

-- The stage at which no push is in progress.
abbrev pub push_idle : RingKind → Push
push_idle kind.Overflowing = push.Overflowing overflowing_push.Idle
push_idle kind.Refusing = push.Refusing refusing_push.Idle

-- A push of a value that has begun.
abbrev pub push_begun : RingKind → ℕ → ℕ → Push
push_begun kind.Overflowing limit value = push.Overflowing (overflowing_push.Begun limit value)
push_begun kind.Refusing limit value = push.Refusing (refusing_push.Begun limit value)

-- A push that has its result.
abbrev pub push_done : RingKind → ℕ → PushAnswer → Push
push_done kind.Overflowing value answer = push.Overflowing (overflowing_push.Pushed value answer)
push_done kind.Refusing value answer = push.Refusing (refusing_push.Pushed value answer)

-- The stage at which no pop or look is in progress.
abbrev pub pop_idle : RingKind → Pop
pop_idle kind.Overflowing = pop.Overflowing overflowing_pop.Idle
pop_idle kind.Refusing = pop.Refusing refusing_pop.Idle

-- A pop that has begun.
abbrev pub pop_begun : RingKind → Pop
pop_begun kind.Overflowing = pop.Overflowing overflowing_pop.Begun
pop_begun kind.Refusing = pop.Refusing refusing_pop.Begun

-- A look that has begun.
abbrev pub pop_look : RingKind → Pop
pop_look kind.Overflowing = pop.Overflowing overflowing_pop.LookBegun
pop_look kind.Refusing = pop.Refusing refusing_pop.LookBegun

-- A pop or a look that has its result.
abbrev pub pop_done : RingKind → PopAnswer → Pop
pop_done kind.Overflowing (Got got) = pop.Overflowing (overflowing_pop.Popped got)
pop_done kind.Overflowing (Saw some) = pop.Overflowing (overflowing_pop.Looked some)
pop_done kind.Refusing (Got got) = pop.Refusing (refusing_pop.Popped got)
pop_done kind.Refusing (Saw some) = pop.Refusing (refusing_pop.Looked some)

-- The first stage of the call that has this result.
abbrev pub pop_asked : RingKind → PopAnswer → Pop
pop_asked kind (Got got) = pop_begun kind
pop_asked kind (Saw some) = pop_look kind

-- The first stage of a look, or else of a pop.
abbrev pub pop_first : RingKind → Bool → Pop
pop_first kind true = pop_look kind
pop_first kind false = pop_begun kind

-- The next access of a push.
abbrev pub push_next : Push → Access
push_next (push.Overflowing p) = overflowing.push_next p
push_next (push.Refusing p) = refusing.push_next p

-- The stage of a push after the result of that access.
abbrev pub push_take : Push → ℕ → Push
push_take (push.Overflowing p) answer = push.Overflowing (overflowing.push_take p answer)
push_take (push.Refusing p) answer = push.Refusing (refusing.push_take p answer)

-- Whether no push is in progress.
abbrev pub push_is_idle : Push → Bool
push_is_idle (push.Overflowing p) = overflowing.push_is_idle p
push_is_idle (push.Refusing p) = refusing.push_is_idle p

-- Whether the next step of this push is its last one.
abbrev pub push_is_over : Push → Bool
push_is_over (push.Overflowing p) = overflowing.push_is_over p
push_is_over (push.Refusing p) = refusing.push_is_over p

-- The number that a push puts.
abbrev pub push_value : Push → ℕ
push_value (push.Overflowing p) = overflowing.push_value p
push_value (push.Refusing p) = refusing.push_value p

-- The next access of a pop or a look.
abbrev pub pop_next : Pop → Access
pop_next (pop.Overflowing p) = overflowing.pop_next p
pop_next (pop.Refusing p) = refusing.pop_next p

-- The stage of a pop or a look after the result of that access.
abbrev pub pop_take : Pop → ℕ → Pop
pop_take (pop.Overflowing p) answer = pop.Overflowing (overflowing.pop_take p answer)
pop_take (pop.Refusing p) answer = pop.Refusing (refusing.pop_take p answer)

-- Whether no pop or look is in progress.
abbrev pub pop_is_idle : Pop → Bool
pop_is_idle (pop.Overflowing p) = overflowing.pop_is_idle p
pop_is_idle (pop.Refusing p) = refusing.pop_is_idle p

-- Whether the next step of this pop or look is its last one.
abbrev pub pop_is_over : Pop → Bool
pop_is_over (pop.Overflowing p) = overflowing.pop_is_over p
pop_is_over (pop.Refusing p) = refusing.pop_is_over p

-- Whether the call is a look and not a pop.
abbrev pub pop_looks : Pop → Bool
pop_looks (pop.Overflowing p) = overflowing.pop_looks p
pop_looks (pop.Refusing p) = refusing.pop_looks p

-- The put that takes effect at the next step of a push, if one does.
abbrev pub placed_by_push : ℕ → ℕ → Push → List Act
placed_by_push limit read (push.Overflowing p) = overflowing_ring.placed_by_push limit read p
placed_by_push limit read (push.Refusing p) = refusing.placed_by_push read p

-- The put that takes effect at the next move of the read position, if one does; a refusing ring has no such put.
abbrev pub late_put : ℕ → Push → List Act
late_put read (push.Overflowing p) = overflowing_ring.late_put read p
late_put read (push.Refusing p) = []

-- The take or look that takes effect at the next step of a pop or look, if one does.
abbrev pub taken_by_pop : ℕ → ℕ → Pop → List Act
taken_by_pop write read (pop.Overflowing p) = overflowing_ring.taken_by_pop write read p
taken_by_pop write read (pop.Refusing p) = refusing.placed_by_pop write p

-- Whether this step of the pop moves the read position of an overflowing ring, at which the put of a push may take effect.
abbrev pub pop_moves : ℕ → Pop → Bool
pop_moves read (pop.Overflowing p) = overflowing_ring.pop_moves read p
pop_moves read (pop.Refusing p) = false

-- The acts that take effect at a step of a pop: first its take, then the put that the move of the read position makes effective.
abbrev pub placed_by_pop : RingWords → Push → Pop → List Act
placed_by_pop words push pop =
    taken_by_pop words.write words.read pop ++ (if pop_moves words.read pop then late_put words.read push else [])

-- The put of a push that isn't finished and whose put took effect already, if there is one.
abbrev pub put_in_hand : ℕ → Push → List PutNow
put_in_hand read (push.Overflowing p) = overflowing_ring.put_in_hand read p
put_in_hand read (push.Refusing p) = refusing.push_ended p

-- The put of a push that finishes with its next step, if it does.
abbrev pub push_ended : Push → List PutNow
push_ended (push.Overflowing p) = overflowing_ring.push_ended p
push_ended (push.Refusing p) = refusing.push_ended p

-- The result of a pop or a look that finishes with its next step, if it does.
abbrev pub pop_ended : Pop → List PopAnswer
pop_ended (pop.Overflowing p) = overflowing_ring.pop_ended p
pop_ended (pop.Refusing p) = refusing.pop_ended p

-- The words, the waiting list according to the order so far, and the stages of both ends are consistent.
abbrev pub Shape : RingKind → ℕ → RingWords → List ℕ → Push → Pop → Type 0
Shape kind.Overflowing limit words q (push.Overflowing p) (pop.Overflowing c) = overflowing_ring.Shape limit words q p c
Shape kind.Overflowing limit words q (push.Overflowing p) (pop.Refusing c) = ⊥
Shape kind.Overflowing limit words q (push.Refusing p) (pop.Overflowing c) = ⊥
Shape kind.Overflowing limit words q (push.Refusing p) (pop.Refusing c) = ⊥
Shape kind.Refusing limit words q (push.Overflowing p) (pop.Overflowing c) = ⊥
Shape kind.Refusing limit words q (push.Overflowing p) (pop.Refusing c) = ⊥
Shape kind.Refusing limit words q (push.Refusing p) (pop.Overflowing c) = ⊥
Shape kind.Refusing limit words q (push.Refusing p) (pop.Refusing c) = refusing.Shape limit words q p c
