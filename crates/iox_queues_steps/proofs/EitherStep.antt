-- The two laws, for a ring of either kind.
use Rattle.iox_queues_steps.specs.declared.rings.ends.RingKind.TheVariants as kind
use Rattle.iox_queues_steps.specs.declared.rings.ends.Push.TheVariants as push
use Rattle.iox_queues_steps.specs.declared.rings.ends.Pop.TheVariants as pop
use Rattle.iox_queues_steps.specs.Moves.{PushMoves, PopMoves}
use Rattle.iox_queues_steps.proofs.PushSteps.{overflowing_moves, refusing_moves}
use Rattle.iox_queues_steps.proofs.PopSteps.{overflowing_moves_out, refusing_moves_out}

pub push_moves : PushMoves
push_moves kind.Overflowing limit words q (push.Overflowing p) (pop.Overflowing c) fits s = overflowing_moves limit words q p c s
push_moves kind.Overflowing limit words q (push.Overflowing p) (pop.Refusing c) fits s = absurd s
push_moves kind.Overflowing limit words q (push.Refusing p) (pop.Overflowing c) fits s = absurd s
push_moves kind.Overflowing limit words q (push.Refusing p) (pop.Refusing c) fits s = absurd s
push_moves kind.Refusing limit words q (push.Overflowing p) (pop.Overflowing c) fits s = absurd s
push_moves kind.Refusing limit words q (push.Overflowing p) (pop.Refusing c) fits s = absurd s
push_moves kind.Refusing limit words q (push.Refusing p) (pop.Overflowing c) fits s = absurd s
push_moves kind.Refusing limit words q (push.Refusing p) (pop.Refusing c) fits s = refusing_moves limit words q p c s

pub pop_moves : PopMoves
pop_moves kind.Overflowing limit words q (push.Overflowing p) (pop.Overflowing c) fits s = overflowing_moves_out limit words q p c s
pop_moves kind.Overflowing limit words q (push.Overflowing p) (pop.Refusing c) fits s = absurd s
pop_moves kind.Overflowing limit words q (push.Refusing p) (pop.Overflowing c) fits s = absurd s
pop_moves kind.Overflowing limit words q (push.Refusing p) (pop.Refusing c) fits s = absurd s
pop_moves kind.Refusing limit words q (push.Overflowing p) (pop.Overflowing c) fits s = absurd s
pop_moves kind.Refusing limit words q (push.Overflowing p) (pop.Refusing c) fits s = absurd s
pop_moves kind.Refusing limit words q (push.Refusing p) (pop.Overflowing c) fits s = absurd s
pop_moves kind.Refusing limit words q (push.Refusing p) (pop.Refusing c) fits s = refusing_moves_out limit words q p c s
