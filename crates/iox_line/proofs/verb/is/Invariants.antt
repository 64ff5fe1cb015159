use Rattle.std.proofs.Common.{◌≡◌, drop}
use Rattle.iox_line.specs.Words.{same}
use Rattle.iox_line.proofs.verb.is.Given as goal

abbrev pub invariant-loop-place : goal.invariant-loop-place
invariant-loop-place l = same l.word l.text ≡ same (drop l.place l.word) (drop l.place l.text)
