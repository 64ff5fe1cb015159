use Rattle.std.proofs.Common.{ℕ, ◌≡◌, ◌+◌, ◌++◌, ◌∷◌, List, [], ap, sym, ◌∙◌, arith, length, length-append}
use Rattle.iox_index_steps.proofs.Starts.{one_longer}
use Rattle.iox_index_steps.proofs.state.links.Goals as goal

pub loop-index-preserved : goal.loop-index-preserved
loop-index-preserved c =
    let longer : length c.push_reserved.new.self.items ≡ length (c.loop-index.links.items ++ (c.loop-index.index + 1) ∷ [])
    = ap (λ (links : List ℕ). length links) c.push_reserved.ensures.items in (
      c.push_reserved.ensures.items ∙ ap (λ (links : List ℕ). links ++ (c.loop-index.index + 1) ∷ []) c.loop-index.invariant.0 ∙ sym
          (one_longer c.loop-index.index),
      omega (arith, longer, length-append c.loop-index.links.items ((c.loop-index.index + 1) ∷ []), c.loop-index.invariant.1),
      omega (arith, c.push_reserved.ensures.capacity, c.loop-index.invariant.2),
    )
