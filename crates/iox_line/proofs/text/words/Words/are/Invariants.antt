use Rattle.std.proofs.Common.{◌≡◌, ◌+◌, length}
use Rattle.iox_line.proofs.text.words.Words.are.Given as goal

abbrev pub invariant-loop : goal.invariant-loop
invariant-loop l = l.counter + length l.rest ≡ length l.self
