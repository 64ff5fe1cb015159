use Rattle.std.proofs.Common.{arith}
use Rattle.std.proofs.lemmas.List.{length-set}
use Rattle.iox_container.proofs.Chains.{LinksKeys-added, LinksKeys-walked, first_within, walk-is}
use Rattle.iox_container.proofs.linked_keys.LinkedKeys.add.Goals as goal

pub invariant_of-self : goal.invariant_of-self
invariant_of-self c =
    let l = c.self.inside in
    let added = LinksKeys-added _ _ _ _ _ c.args.key _ c.self.invariant.0 (rw (← c.self.view_is) at c.requires.below)
    (rw (← c.self.view_is) at c.requires.held) in (
      LinksKeys-walked _ _ _ _ _ _ added,
      omega
          (arith, rw (← c.self.view_is) at c.requires.fits, c.self.invariant.0.counted, length-set l.next.items c.args.key l.first),
      c.self.invariant.2,
      c.self.invariant.3,
    )

pub returns : goal.returns
returns c =
    let l = c.self.inside in
    let is = walk-is _ _ _ _ _ _ (LinksKeys-added _ _ _ _ _ c.args.key _ c.self.invariant.0 (rw (← c.self.view_is) at c.requires.below)
    (rw (← c.self.view_is) at c.requires.held)) in
    let long = length-set l.next.items c.args.key l.first in
    rw (← c.self.view_is) (cc (is, long))

pub index_mut-requires-2 : goal.index_mut-requires-2
index_mut-requires-2 c = omega (arith, first_within _ _ _ _ _ _ c.self.invariant.0, c.self.invariant.0.back, c.self.inside.previous.ok.0)
