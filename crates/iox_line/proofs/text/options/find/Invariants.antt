use Rattle.std.proofs.Common.{◌≡◌, length}
use Rattle.iox_line.specs.Options.{find}
use Rattle.iox_line.proofs.text.options.find.Given as goal

abbrev pub invariant-loop-word : goal.invariant-loop-word
invariant-loop-word l = find l.key l.words ≡ find l.key l.rest

abbrev pub decreases-loop-word : goal.decreases-loop-word
decreases-loop-word l = length l.rest
