use Rattle.std.proofs.Common.{◌≡◌, ◌+◌, ◌≤◌, ◌++◌, length}
use Rattle.std.specs.Option.{option_map}
use Rattle.iox_line.specs.Reading.{numbers}
use Rattle.iox_line.proofs.arguments.numbers.Given as goal

abbrev pub invariant-loop-rest : goal.invariant-loop-rest
invariant-loop-rest l = (length l.scratch + length l.rest ≤ 1025)
    × (numbers l.fn.words ≡ option_map (λ ns. l.scratch ++ ns) (numbers l.rest))

abbrev pub decreases-loop-rest : goal.decreases-loop-rest
decreases-loop-rest l = length l.rest
