-- The answer of a push or a pop that is over.
use Rattle.std.specs.Prelude.{Option, Some, None}
use Rattle.iox_lanes_base.specs.QueuesSteps.declared.order.PushAnswer.{PushAnswer}
use Rattle.iox_lanes_base.specs.QueuesSteps.declared.order.PopAnswer.{PopAnswer}
use Rattle.iox_lanes_base.specs.QueuesSteps.declared.order.PopAnswer.TheVariants.{Got, Saw}
use Rattle.iox_queues_steps.specs.declared.rings.overflowing.push.Push.TheVariants as overflowing_push
use Rattle.iox_queues_steps.specs.declared.rings.overflowing.pop.Pop.TheVariants as overflowing_pop
use Rattle.iox_queues_steps.specs.declared.rings.refusing.push.Push as refusing_push_type
use Rattle.iox_queues_steps.specs.declared.rings.refusing.push.Push.TheVariants as refusing_push
use Rattle.iox_queues_steps.specs.declared.rings.refusing.pop.Pop as refusing_pop_type
use Rattle.iox_queues_steps.specs.declared.rings.refusing.pop.Pop.TheVariants as refusing_pop
use Rattle.iox_queues_steps.specs.declared.rings.ends.Push.{Push}
use Rattle.iox_queues_steps.specs.declared.rings.ends.Push.TheVariants as push
use Rattle.iox_queues_steps.specs.declared.rings.ends.Pop.{Pop}
use Rattle.iox_queues_steps.specs.declared.rings.ends.Pop.TheVariants as pop

-- The answer of a push on a refusing ring; none while it is in progress.
abbrev pub refusing_push_answer : refusing_push_type.Push → Option PushAnswer
refusing_push_answer refusing_push.Idle = None
refusing_push_answer (refusing_push.Begun limit value) = None
refusing_push_answer (refusing_push.SawWrite limit value write next) = None
refusing_push_answer (refusing_push.SawRoom value write next) = None
refusing_push_answer (refusing_push.Filled value next) = None
refusing_push_answer (refusing_push.Pushed value answer) = Some answer

-- The answer of a pop or a look on a refusing ring; none while it is in progress.
abbrev pub refusing_pop_answer : refusing_pop_type.Pop → Option PopAnswer
refusing_pop_answer refusing_pop.Idle = None
refusing_pop_answer refusing_pop.Begun = None
refusing_pop_answer (refusing_pop.SawRead read) = None
refusing_pop_answer (refusing_pop.Nonempty read next) = None
refusing_pop_answer (refusing_pop.SawCell next value) = None
refusing_pop_answer (refusing_pop.Popped got) = Some (Got got)
refusing_pop_answer refusing_pop.LookBegun = None
refusing_pop_answer (refusing_pop.LookRead read) = None
refusing_pop_answer (refusing_pop.Looked some) = Some (Saw some)

-- The answer of a push on a ring of either kind; none while it is in progress.
abbrev pub push_answer : Push → Option PushAnswer
push_answer (push.Overflowing overflowing_push.Idle) = None
push_answer (push.Overflowing (overflowing_push.Begun limit value)) = None
push_answer (push.Overflowing (overflowing_push.SawWrite limit value write next)) = None
push_answer (push.Overflowing (overflowing_push.SawRead limit value write next read)) = None
push_answer (push.Overflowing (overflowing_push.Filled limit value write next read)) = None
push_answer (push.Overflowing (overflowing_push.Full value read next)) = None
push_answer (push.Overflowing (overflowing_push.SawOldest value read next oldest)) = None
push_answer (push.Overflowing (overflowing_push.Pushed value answer)) = Some answer
push_answer (push.Refusing p) = refusing_push_answer p

-- The answer of a pop or a look on a ring of either kind; none while it is in progress.
abbrev pub pop_answer : Pop → Option PopAnswer
pop_answer (pop.Overflowing overflowing_pop.Idle) = None
pop_answer (pop.Overflowing overflowing_pop.Begun) = None
pop_answer (pop.Overflowing (overflowing_pop.SawRead read)) = None
pop_answer (pop.Overflowing (overflowing_pop.Nonempty read next)) = None
pop_answer (pop.Overflowing (overflowing_pop.SawCell read next value)) = None
pop_answer (pop.Overflowing (overflowing_pop.Popped got)) = Some (Got got)
pop_answer (pop.Overflowing overflowing_pop.LookBegun) = None
pop_answer (pop.Overflowing (overflowing_pop.LookRead read)) = None
pop_answer (pop.Overflowing (overflowing_pop.Looked some)) = Some (Saw some)
pop_answer (pop.Refusing p) = refusing_pop_answer p
