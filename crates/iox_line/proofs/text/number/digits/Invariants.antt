use Rattle.std.proofs.Common.{◌≡◌, ◌^◌, ◌<◌, drop}
use Rattle.iox_line.specs.Numbers.{digits_from}
use Rattle.iox_line.proofs.text.number.digits.Given as goal

abbrev pub invariant-loop-digit : goal.invariant-loop-digit
invariant-loop-digit l = (digits_from 0 l.word ≡ digits_from l.value (drop l.digit-index l.word)) × (l.value < 2 ^ 64)
