use Rattle.std.proofs.Common.{◌∙◌, length, arith}
use Rattle.iox_line.proofs.SpacedLemmas.{so_many}
use Rattle.iox_line.proofs.text.words.Words.are.Goals as goal

pub returns : goal.returns
returns c = c.is_empty.ensures ∙ so_many c.loop.rest (length c.args.self.now) c.args.count
    (omega (arith, c.loop.invariant, c.loop-test.false, c.loop.auto.counter-end))
