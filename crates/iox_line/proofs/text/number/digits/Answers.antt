use Rattle.iox_line.proofs.LeadingLemmas.{no_digit}
use Rattle.iox_line.proofs.text.number.digits.Goals as goal

pub returns-in_default : goal.returns-in_default
returns-in_default c = no_digit c.args.word.now c.loop-digit.digit-index c.loop-digit.value c.loop-digit-test.true
    c.loop-digit.invariant.0 c.in_default.ensures
