use Rattle.std.proofs.Common.{ℕ, ◌≡◌, List, length}
use Rattle.iox_queues_steps.specs.Runs.{Runs}
use Rattle.iox_queues_steps.proofs.end.run.Given as goal

abbrev pub invariant-loop-i : goal.invariant-loop-i
invariant-loop-i g l = (given : List ℕ)
    × Runs g.M.Memory.answers g.E.End.asks g.E.End.takes g.E.End.over given l.fn.memory l.fn.begun l.memory l.end × (length given ≡ l.i)
