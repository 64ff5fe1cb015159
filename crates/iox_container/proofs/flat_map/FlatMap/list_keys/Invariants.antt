use Rattle.std.proofs.Common.{◌≡◌, drop, length}
use Rattle.std.specs.Fn.{CalledAt}
use denote.Param.Always.{always_mut}
use Rattle.iox_container.specs.PairTable.{CallsAtKeys, pairs}
use Rattle.iox_container.proofs.flat_map.FlatMap.list_keys.Given as goal

-- the calls so far and then those at the other places are the calls at all
abbrev pub invariant-loop-index : goal.invariant-loop-index
invariant-loop-index g l =
    always_mut g.F.FnMut l.callback
    × ((last : _) → CallsAtKeys (CalledAt g.F.FnMut) l.callback (pairs (drop l.index l.self.values)) last
    → CallsAtKeys (CalledAt g.F.FnMut) l.fn.callback (pairs l.self.values) last)
    × (l.unseen ≡ length (pairs (drop l.index l.self.values)))
