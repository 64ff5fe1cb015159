use Rattle.std.proofs.Common.{arith, subst}
use Rattle.iox_line.specs.Outcome.{AreReadAs}
use Rattle.iox_line.specs.Reading.{of_words}
use Rattle.iox_line.proofs.LineLemmas.{words_length}
use Rattle.iox_line.proofs.ReadLineLemmas.{so_far}
use Rattle.iox_line.proofs.read.read_line.Goals as goal

pub of_words-requires : goal.of_words-requires
of_words-requires c = rw c.new.ensures (omega (arith, c.if-line-gt1024.false, words_length c.args.line.now))

pub returns : goal.returns
returns c = so_far c.args.line.now c.of_words.result (omega (arith, c.if-line-gt1024.false))
    (subst (λ ws. AreReadAs (of_words ws) c.of_words.result) c.new.ensures c.of_words.ensures)
