use Rattle.std.proofs.Common.{arith}
use Rattle.std.proofs.lemmas.List.{get_or_read, length-set}
use Rattle.iox_container.proofs.Chains.{LinksKeys-first_removed, LinksKeys-removed, LinksKeys-walked, links_within, walk-is}
use Rattle.iox_container.proofs.linked_keys.LinkedKeys.remove.Goals as goal

pub index-next-requires : goal.index-next-requires
index-next-requires c =
    let f = c.self.inside in
    omega (arith, c.self.invariant.0.forth, f.next.ok.0, c.self.invariant.0.below c.args.key (rw (← c.self.view_is) at c.requires))

pub invariant_of-self : goal.invariant_of-self
invariant_of-self c =
    let f = c.self.inside in
    let there = rw (← c.self.view_is) at c.requires in
    let low = c.self.invariant.0.below c.args.key there in
    let behind = get_or_read f.next.items _ _ (omega (arith, c.self.invariant.0.forth)) c.index-next.ensures 0 in (
      LinksKeys-walked _ _ _ _ _ _ (LinksKeys-first_removed _ _ _ _ _ c.args.key _ _ c.self.invariant.0 there c.if-key-self.true behind),
      omega (arith, c.self.invariant.1),
      c.self.invariant.2,
      c.self.invariant.3,
    )

pub returns-then-key-self : goal.returns-then-key-self
returns-then-key-self c =
    let f = c.self.inside in
    let there = rw (← c.self.view_is) at c.requires in
    let low = c.self.invariant.0.below c.args.key there in
    let behind = get_or_read f.next.items _ _ (omega (arith, c.self.invariant.0.forth)) c.index-next.ensures 0 in
    let is = walk-is _ _ _ _ _ _ (LinksKeys-first_removed _ _ _ _ _ c.args.key _ _ c.self.invariant.0 there c.if-key-self.true behind) in
    rw (← c.self.view_is) (cc is)

pub index-previous-requires : goal.index-previous-requires
index-previous-requires c =
    let f = c.self.inside in
    omega (arith, c.self.invariant.0.back, f.previous.ok.0, c.self.invariant.0.below c.args.key (rw (← c.self.view_is) at c.requires))

pub index_mut-requires : goal.index_mut-requires
index_mut-requires c =
    let f = c.self.inside in
    let there = rw (← c.self.view_is) at c.requires in
    let low = c.self.invariant.0.below c.args.key there in
    let before = get_or_read f.previous.items _ _ (omega (arith, c.self.invariant.0.back)) c.index-previous.ensures 0 in
    omega (
      arith,
      before,
      (links_within _ _ _ _ _ c.args.key _ c.self.invariant.0 there c.if-key-self.false).1,
      c.self.invariant.0.forth,
      f.next.ok.0,
    )

pub index_mut-requires-2 : goal.index_mut-requires-2
index_mut-requires-2 c =
    let f = c.self.inside in
    let there = rw (← c.self.view_is) at c.requires in
    let low = c.self.invariant.0.below c.args.key there in
    let behind = get_or_read f.next.items _ _ (omega (arith, c.self.invariant.0.forth)) c.index-next.ensures 0 in
    omega (
      arith,
      behind,
      (links_within _ _ _ _ _ c.args.key _ c.self.invariant.0 there c.if-key-self.false).0,
      c.self.invariant.0.back,
      f.previous.ok.0,
    )

pub invariant_of-self-2 : goal.invariant_of-self-2
invariant_of-self-2 c =
    let f = c.self.inside in
    let there = rw (← c.self.view_is) at c.requires in
    let low = c.self.invariant.0.below c.args.key there in
    let before = get_or_read f.previous.items _ _ (omega (arith, c.self.invariant.0.back)) c.index-previous.ensures 0 in
    let behind = get_or_read f.next.items _ _ (omega (arith, c.self.invariant.0.forth)) c.index-next.ensures 0 in
    let long = length-set f.next.items c.index-previous.result.now c.index-next.result.now in (
      LinksKeys-walked _ _ _ _ _ _
          (LinksKeys-removed _ _ _ _ _ c.args.key _ _ _ c.self.invariant.0 there c.if-key-self.false before behind),
      omega (arith, c.self.invariant.1, long),
      c.self.invariant.2,
      c.self.invariant.3,
    )

pub returns : goal.returns
returns c =
    let f = c.self.inside in
    let there = rw (← c.self.view_is) at c.requires in
    let low = c.self.invariant.0.below c.args.key there in
    let before = get_or_read f.previous.items _ _ (omega (arith, c.self.invariant.0.back)) c.index-previous.ensures 0 in
    let behind = get_or_read f.next.items _ _ (omega (arith, c.self.invariant.0.forth)) c.index-next.ensures 0 in
    let is = walk-is _ _ _ _ _ _ (LinksKeys-removed _ _ _ _ _ c.args.key _ _ _ c.self.invariant.0 there c.if-key-self.false before
    behind) in
    let long = length-set f.next.items c.index-previous.result.now c.index-next.result.now in
    rw (← c.self.view_is) (cc (is, long))
