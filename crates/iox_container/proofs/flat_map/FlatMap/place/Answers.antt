use Rattle.std.proofs.Common.{ℕ, ◌≡◌, length, drop, refl, sym, ap, ◌∙◌, arith}
use Rattle.std.specs.Prelude.{option_map}
use Rattle.iox_container.specs.PairTable.{pairs}
use Rattle.iox_container.proofs.Pairs.{length-pairs, place_at_seen}
use Rattle.iox_container.proofs.flat_map.FlatMap.place.Goals as goal

pub loop-index-init : goal.loop-index-init
loop-index-init g c =
    let counted = length-pairs c.self.inside.map.values in
    (refl, rw (← c.self.view_is) (c.len-unseen.ensures.value ∙ sym counted))

pub returns-then-unseen-eq0 : goal.returns-then-unseen-eq0
returns-then-unseen-eq0 g c =
    let t = c.args.self.now in
    let seen : length (pairs (drop c.loop-index.index t.values)) ≡ 0 = omega (arith, c.loop-index.invariant.1) in
    let none = sym c.loop-index.invariant.0 ∙ place_at_seen (λ k. g.K.PartialEq.eq k c.args.key.now) t.values c.loop-index.index seen in
    sym (ap (λ o. option_map (λ (found : ℕ × (g.row.K.Denot × g.row.V.Denot)). found.0) o) none)
