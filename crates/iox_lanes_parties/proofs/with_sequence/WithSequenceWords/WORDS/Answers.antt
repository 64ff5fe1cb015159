use Rattle.std.proofs.Common.{arith}
use Rattle.iox_lanes_parties.proofs.with_sequence.WithSequenceWords.WORDS.Goals as goal

pub overflow_add-result : goal.overflow_add-result
overflow_add-result g c = omega (arith, c.WORDS.ensures, g.met.U.FewWords.few)
