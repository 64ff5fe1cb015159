use Rattle.std.proofs.Common.{ℕ, slice_index, ap, ◌∙◌, mod-eq_of_lt}
use Rattle.iox_queues.proofs.bits.state.State.count.Goals as goal

pub returns : goal.returns
returns c = c.word.ensures ∙ ap (λ (k : ℕ). slice_index c.args.self.now.ring.cells k) (mod-eq_of_lt c.requires)
