use Rattle.std.proofs.Common.{◌≡◌, ◌+◌, length, arith}
use Rattle.std.proofs.lemmas.List.{length_push}
use Rattle.iox_container.proofs.Chains.{LinksKeys-grown, LinksKeys-walked, walk-is}
use Rattle.iox_container.proofs.linked_keys.LinkedKeys.make_next.Goals as goal

pub invariant_of-self : goal.invariant_of-self
invariant_of-self c =
    let l = c.self.inside in
    let at : c.len-key.result ≡ length l.next.items = omega (arith, c.len-key.ensures, l.next.ok.0) in
    let grown = LinksKeys-grown _ _ _ _ _ _ c.self.invariant.0 in
    rw (
      c.push_reserved.ensures.items,
      c.push_reserved-2.ensures.items,
      c.push_reserved.ensures.capacity,
      c.push_reserved-2.ensures.capacity,
      at,
    ) (
      LinksKeys-walked _ _ _ _ _ _ grown,
      omega (arith, c.self.invariant.1, length_push l.next.items (length l.next.items + 1)),
      c.self.invariant.2,
      c.self.invariant.3,
    )

pub returns : goal.returns
returns c =
    let l = c.self.inside in
    let at : c.len-key.result ≡ length l.next.items = omega (arith, c.len-key.ensures, l.next.ok.0) in
    let is = walk-is _ _ _ _ _ _ (LinksKeys-grown _ _ _ _ _ _ c.self.invariant.0) in
    let long = length_push l.next.items (length l.next.items + 1) in
    rw (← c.self.view_is, c.push_reserved.ensures.items, at) (cc (is, long))
