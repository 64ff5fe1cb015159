use Rattle.iox_queues_steps.proofs.EitherStep as either
use Rattle.iox_queues_steps.proofs.rings.waiting.pop_moves.Goals as goal

pub returns : goal.returns
returns c = either.pop_moves
