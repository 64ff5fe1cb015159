use Rattle.std.proofs.Common.{arith}
use Rattle.std.proofs.lemmas.Grind.{common_steps}
use Rattle.iox_line.proofs.LeadingLemmas.{none_there}
use Rattle.iox_line.proofs.text.number.leading_digits.Goals as goal

pub returns-in_default : goal.returns-in_default
returns-in_default c = none_there c.args.separator c.args.front c.loop-end.value c.args.text.now c.loop-end.end c.loop-end-test.true
    (grind (arith, common_steps, c.if-byte-separator.false)) c.loop-end.invariant.0 c.in_default.ensures
