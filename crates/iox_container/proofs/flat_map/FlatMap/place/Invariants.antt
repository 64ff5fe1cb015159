use Rattle.std.proofs.Common.{◌≡◌, drop, length}
use Rattle.iox_container.specs.PairTable.{pairs, place_from}
use Rattle.iox_container.proofs.flat_map.FlatMap.place.Given as goal

-- none of the places so far has the key, and n pairs are left
abbrev pub invariant-loop-index : goal.invariant-loop-index
invariant-loop-index g l =
    (place_from (λ k. g.K.PartialEq.eq k l.key) l.index (drop l.index l.self.values)
    ≡ place_from (λ k. g.K.PartialEq.eq k l.key) 0 l.self.values)
    × (l.unseen ≡ length (pairs (drop l.index l.self.values)))
