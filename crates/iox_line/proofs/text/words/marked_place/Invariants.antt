use Rattle.std.proofs.Common.{◌≡◌, drop}
use Rattle.iox_line.specs.Words.{marked_from}
use Rattle.iox_line.proofs.text.words.marked_place.Given as goal

abbrev pub invariant-loop-place : goal.invariant-loop-place
invariant-loop-place l = marked_from l.mark l.separator 0 l.text ≡ marked_from l.mark l.separator l.place (drop l.place l.text)
