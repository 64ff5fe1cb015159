use Rattle.iox_lanes.proofs.threads.opening.open_threads.Goals as goal

pub returns-in-Ok-clause-own : goal.returns-in-Ok-clause-own
returns-in-Ok-clause-own g c = rw (c.with.ensures.board, c.with.ensures.publishers, c.with.ensures.subscribers) c.in-Ok.ensures.own
