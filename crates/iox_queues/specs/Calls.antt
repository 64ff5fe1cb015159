-- The result of a shared call, from the stage at which its run ended.
use Rattle.std.specs.Prelude.{ℕ, Bool, true, false, Option, Some, None}
use Rattle.iox_queues.specs.QueuesSteps.declared.order.PushAnswer.TheVariants.{Kept, LeftOut, Refused}
use Rattle.iox_queues_steps.specs.declared.rings.overflowing.push.Push.{Push as OverflowingPush}
use Rattle.iox_queues_steps.specs.declared.rings.overflowing.push.Push.TheVariants as overflowing_push
use Rattle.iox_queues_steps.specs.declared.rings.overflowing.pop.Pop.{Pop as OverflowingPop}
use Rattle.iox_queues_steps.specs.declared.rings.overflowing.pop.Pop.TheVariants as overflowing_pop
use Rattle.iox_queues_steps.specs.declared.rings.refusing.push.Push.{Push as RefusingPush}
use Rattle.iox_queues_steps.specs.declared.rings.refusing.push.Push.TheVariants as refusing_push
use Rattle.iox_queues_steps.specs.declared.rings.refusing.pop.Pop.{Pop as RefusingPop}
use Rattle.iox_queues_steps.specs.declared.rings.refusing.pop.Pop.TheVariants as refusing_pop

-- Whether the push ended with its value kept.
abbrev pub is_kept : RefusingPush → Bool
is_kept refusing_push.Idle = false
is_kept (refusing_push.Begun limit value) = false
is_kept (refusing_push.SawWrite limit value write next) = false
is_kept (refusing_push.SawRoom value write next) = false
is_kept (refusing_push.Filled value next) = false
is_kept (refusing_push.Pushed value Kept) = true
is_kept (refusing_push.Pushed value (LeftOut oldest)) = false
is_kept (refusing_push.Pushed value Refused) = false

-- The number that the pop took, if it took one.
abbrev pub popped : RefusingPop → Option ℕ
popped refusing_pop.Idle = None
popped refusing_pop.Begun = None
popped (refusing_pop.SawRead read) = None
popped (refusing_pop.Nonempty read next) = None
popped (refusing_pop.SawCell next value) = None
popped (refusing_pop.Popped got) = got
popped refusing_pop.LookBegun = None
popped (refusing_pop.LookRead read) = None
popped (refusing_pop.Looked some) = None

-- The oldest value, if the push removed it.
abbrev pub left_by : OverflowingPush → Option ℕ
left_by overflowing_push.Idle = None
left_by (overflowing_push.Begun limit value) = None
left_by (overflowing_push.SawWrite limit value write next) = None
left_by (overflowing_push.SawRead limit value write next read) = None
left_by (overflowing_push.Filled limit value write next read) = None
left_by (overflowing_push.Full value read next) = None
left_by (overflowing_push.SawOldest value read next oldest) = None
left_by (overflowing_push.Pushed value Kept) = None
left_by (overflowing_push.Pushed value (LeftOut oldest)) = Some oldest
left_by (overflowing_push.Pushed value Refused) = None

-- The number that the pop took, if it took one before its tries were used up.
abbrev pub taken : OverflowingPop → Option ℕ
taken overflowing_pop.Idle = None
taken overflowing_pop.Begun = None
taken (overflowing_pop.SawRead read) = None
taken (overflowing_pop.Nonempty read next) = None
taken (overflowing_pop.SawCell read next value) = None
taken (overflowing_pop.Popped got) = got
taken overflowing_pop.LookBegun = None
taken (overflowing_pop.LookRead read) = None
taken (overflowing_pop.Looked waiting) = None
