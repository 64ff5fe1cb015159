use Rattle.std.proofs.Common.{◌≡◌, ◌^◌, ◌<◌, drop}
use Rattle.iox_line.proofs.LeadingLemmas.{digits_and_rest}
use Rattle.iox_line.proofs.text.number.leading_digits.Given as goal

abbrev pub invariant-loop-end : goal.invariant-loop-end
invariant-loop-end l = (digits_and_rest l.separator l.fn.front l.text ≡ digits_and_rest l.separator l.value (drop l.end l.text))
    × (l.value < 2 ^ 64)
