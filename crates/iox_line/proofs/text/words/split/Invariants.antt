use Rattle.std.proofs.Common.{◌≡◌, true, take}
use Rattle.iox_line.specs.Words.{lacks}
use Rattle.iox_line.proofs.text.words.split.Given as goal

abbrev pub invariant-loop-end : goal.invariant-loop-end
invariant-loop-end l = lacks l.separator (take l.end l.text) ≡ true
