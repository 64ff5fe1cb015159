-- The steps of a push and of a pop on the overflowing ring, by the stage of each.
use Rattle.std.specs.Prelude.{ℕ, ◌-◌, Bool, true, false, not, if◌then◌else◌, ◌==◌, nat_lt, Some, None}
use Rattle.iox_queues_steps.specs.Access.{successor}
use Rattle.iox_queues_steps.specs.declared.access.Word.TheVariants.{Write, Read, Cell}
use Rattle.iox_queues_steps.specs.declared.access.Access.{Access}
use Rattle.iox_queues_steps.specs.declared.access.Access.TheVariants.{Load, Store, Exchange, Local}
use Rattle.iox_queues_steps.specs.declared.order.PushAnswer.TheVariants.{Kept, LeftOut}
use Rattle.iox_queues_steps.specs.declared.rings.overflowing.push.Push.{Push}
use Rattle.iox_queues_steps.specs.declared.rings.overflowing.push.Push.TheVariants as push
use Rattle.iox_queues_steps.specs.declared.rings.overflowing.pop.Pop.{Pop}
use Rattle.iox_queues_steps.specs.declared.rings.overflowing.pop.Pop.TheVariants as pop

-- The next access of a push.
abbrev pub push_next : Push → Access
push_next push.Idle = Local
push_next (push.Begun limit value) = Load Write
push_next (push.SawWrite limit value write next) = Load Read
push_next (push.SawRead limit value write next read) = Store (Cell write) value
push_next (push.Filled limit value write next read) = Store Write next
push_next (push.Full value read next) = Load (Cell read)
push_next (push.SawOldest value read next oldest) = Exchange Read read next
push_next (push.Pushed value answered) = Local

-- The stage after the store of the write position: the push goes on if more than `limit` numbers may wait now.
abbrev pub push_filled : ℕ → ℕ → ℕ → ℕ → Push
push_filled limit value next read =
    if nat_lt limit (next - read) then push.Full value read (successor read) else push.Pushed value Kept

-- The stage after the exchange: this push removed the oldest number exactly if it won the exchange.
abbrev pub push_swapped : ℕ → Bool → ℕ → Push
push_swapped value won oldest = push.Pushed value (if won then LeftOut oldest else Kept)

-- The stage of a push after the result of its access.
abbrev pub push_take : Push → ℕ → Push
push_take push.Idle answer = push.Idle
push_take (push.Begun limit value) answer = push.SawWrite limit value answer (successor answer)
push_take (push.SawWrite limit value write next) answer = push.SawRead limit value write next answer
push_take (push.SawRead limit value write next read) answer = push.Filled limit value write next read
push_take (push.Filled limit value write next read) answer = push_filled limit value next read
push_take (push.Full value read next) answer = push.SawOldest value read next answer
push_take (push.SawOldest value read next oldest) answer = push_swapped value (answer == read) oldest
push_take (push.Pushed value answered) answer = push.Idle

-- The next access of a pop or a look.
abbrev pub pop_next : Pop → Access
pop_next pop.Idle = Local
pop_next pop.Begun = Load Read
pop_next (pop.SawRead read) = Load Write
pop_next (pop.Nonempty read next) = Load (Cell read)
pop_next (pop.SawCell read next value) = Exchange Read read next
pop_next (pop.Popped got) = Local
pop_next pop.LookBegun = Load Read
pop_next (pop.LookRead read) = Load Write
pop_next (pop.Looked waiting) = Local

-- The stage after the load of the write position: equal positions end the pop with no number.
abbrev pub pop_emptied : Bool → ℕ → Pop
pop_emptied empty read = if empty then pop.Popped None else pop.Nonempty read (successor read)

-- The stage after the exchange: a lost exchange is tried again from the position found.
abbrev pub pop_swapped : Bool → ℕ → ℕ → Pop
pop_swapped won found value =
    if won then pop.Popped (Some value) else pop.Nonempty found (successor found)

-- The stage of a pop or a look after the result of its access.
abbrev pub pop_take : Pop → ℕ → Pop
pop_take pop.Idle answer = pop.Idle
pop_take pop.Begun answer = pop.SawRead answer
pop_take (pop.SawRead read) answer = pop_emptied (answer == read) read
pop_take (pop.Nonempty read next) answer = pop.SawCell read next answer
pop_take (pop.SawCell read next value) answer = pop_swapped (answer == read) answer value
pop_take (pop.Popped got) answer = pop.Idle
pop_take pop.LookBegun answer = pop.LookRead answer
pop_take (pop.LookRead read) answer = pop.Looked (not (answer == read))
pop_take (pop.Looked waiting) answer = pop.Idle

-- Whether no push is in progress.
abbrev pub push_is_idle : Push → Bool
push_is_idle push.Idle = true
push_is_idle other = false

-- Whether no pop or look is in progress.
abbrev pub pop_is_idle : Pop → Bool
pop_is_idle pop.Idle = true
pop_is_idle other = false

-- Whether the next step of this push is its last one.
abbrev pub push_is_over : Push → Bool
push_is_over (push.Pushed value answer) = true
push_is_over other = false

-- Whether the next step of this pop or look is its last one.
abbrev pub pop_is_over : Pop → Bool
pop_is_over (pop.Popped got) = true
pop_is_over (pop.Looked waiting) = true
pop_is_over other = false

-- The number that a push puts.
abbrev pub push_value : Push → ℕ
push_value push.Idle = 0
push_value (push.Begun limit value) = value
push_value (push.SawWrite limit value write next) = value
push_value (push.SawRead limit value write next seen) = value
push_value (push.Filled limit value write next seen) = value
push_value (push.Full value seen next) = value
push_value (push.SawOldest value seen next oldest) = value
push_value (push.Pushed value answer) = value

-- Whether the call is a look and not a pop.
abbrev pub pop_looks : Pop → Bool
pop_looks pop.LookBegun = true
pop_looks (pop.LookRead seen) = true
pop_looks (pop.Looked waiting) = true
pop_looks other = false
