use Rattle.std.proofs.Common.{arith, ◌∙◌, ap, reverse}
use Rattle.std.proofs.lemmas.List.{get_or_read, length-set}
use Rattle.iox_container.specs.Links.{walk}
use Rattle.iox_container.proofs.Chains.{links_within}
use Rattle.iox_domain_slots.proofs.Loaned.{first_removed, leaves, lies, removed}
use Rattle.iox_domain_slots.proofs.loans.Loans.remove.Goals as goal

pub index_mut-requires : goal.index_mut-requires
index_mut-requires c =
    let l = c.self.inside in
    omega (
      arith,
      l.lent.ok.0,
      c.self.invariant.2,
      c.self.invariant.0.below c.args.slot
          (lies c.args.slot (walk l.older.items l.len l.newest) (rw (← c.self.view_is) at c.requires)),
    )

pub index-older-requires : goal.index-older-requires
index-older-requires c =
    let l = c.self.inside in
    omega (
      arith,
      l.older.ok.0,
      c.self.invariant.0.below c.args.slot
          (lies c.args.slot (walk l.older.items l.len l.newest) (rw (← c.self.view_is) at c.requires)),
    )

pub invariant_of-self : goal.invariant_of-self
invariant_of-self c =
    let l = c.self.inside in
    let there = lies c.args.slot (walk l.older.items l.len l.newest) (rw (← c.self.view_is) at c.requires) in
    let behind = get_or_read l.older.items _ _ (c.self.invariant.0.below c.args.slot there) c.index-older.ensures 0 in
    let is = (first_removed l.older.items l.newer.items l.newest l.len c.args.slot c.index-older.result.now l.lent.items
    (c.self.invariant.0, c.self.invariant.1, c.self.invariant.2, c.self.invariant.3) there
    c.if-slot-self.true behind).0 in
    (is.0, is.1, is.2, is.3, c.self.invariant.4, c.self.invariant.5, c.self.invariant.6)

pub returns-then-slot-self-clause-after : goal.returns-then-slot-self-clause-after
returns-then-slot-self-clause-after c =
    let l = c.self.inside in
    let there = lies c.args.slot (walk l.older.items l.len l.newest) (rw (← c.self.view_is) at c.requires) in
    let behind = get_or_read l.older.items _ _ (c.self.invariant.0.below c.args.slot there) c.index-older.ensures 0 in
    let is = (first_removed l.older.items l.newer.items l.newest l.len c.args.slot c.index-older.result.now l.lent.items
    (c.self.invariant.0, c.self.invariant.1, c.self.invariant.2, c.self.invariant.3) there c.if-slot-self.true behind).1 in
    let items = ap reverse is ∙ (leaves c.args.slot (walk l.older.items l.len l.newest) c.self.invariant.0.distinct there).rest in
    rw (← c.self.view_is) (cc (items))

pub returns-then-slot-self-clause-there : goal.returns-then-slot-self-clause-there
returns-then-slot-self-clause-there c =
    let l = c.self.inside in
    rw (← c.self.view_is) (leaves c.args.slot (walk l.older.items l.len l.newest) c.self.invariant.0.distinct
    (lies c.args.slot (walk l.older.items l.len l.newest) (rw (← c.self.view_is) at c.requires))).there

pub returns-then-slot-self-clause-within : goal.returns-then-slot-self-clause-within
returns-then-slot-self-clause-within c =
    let l = c.self.inside in
    rw (← c.self.view_is) (leaves c.args.slot (walk l.older.items l.len l.newest) c.self.invariant.0.distinct
    (lies c.args.slot (walk l.older.items l.len l.newest) (rw (← c.self.view_is) at c.requires))).within

pub index-newer-requires : goal.index-newer-requires
index-newer-requires c =
    let l = c.self.inside in
    omega (
      arith,
      l.newer.ok.0,
      c.self.invariant.0.back,
      c.self.invariant.0.below c.args.slot
          (lies c.args.slot (walk l.older.items l.len l.newest) (rw (← c.self.view_is) at c.requires)),
    )

pub index_mut-requires-2 : goal.index_mut-requires-2
index_mut-requires-2 c =
    let l = c.self.inside in
    let there = lies c.args.slot (walk l.older.items l.len l.newest) (rw (← c.self.view_is) at c.requires) in
    let low = c.self.invariant.0.below c.args.slot there in
    let before = get_or_read l.newer.items _ _ (omega (arith, c.self.invariant.0.back, low)) c.index-newer.ensures 0 in
    omega (arith, before, (links_within _ _ _ _ _ c.args.slot _ c.self.invariant.0 there c.if-slot-self.false).1, l.older.ok.0)

pub index_mut-requires-3 : goal.index_mut-requires-3
index_mut-requires-3 c =
    let l = c.self.inside in
    let there = lies c.args.slot (walk l.older.items l.len l.newest) (rw (← c.self.view_is) at c.requires) in
    let behind = get_or_read l.older.items _ _ (c.self.invariant.0.below c.args.slot there) c.index-older.ensures 0 in
    omega (
      arith,
      behind,
      (links_within _ _ _ _ _ c.args.slot _ c.self.invariant.0 there c.if-slot-self.false).0,
      c.self.invariant.0.back,
      l.newer.ok.0,
    )

pub invariant_of-self-2 : goal.invariant_of-self-2
invariant_of-self-2 c =
    let l = c.self.inside in
    let there = lies c.args.slot (walk l.older.items l.len l.newest) (rw (← c.self.view_is) at c.requires) in
    let low = c.self.invariant.0.below c.args.slot there in
    let before = get_or_read l.newer.items _ _ (omega (arith, c.self.invariant.0.back, low)) c.index-newer.ensures 0 in
    let behind = get_or_read l.older.items _ _ low c.index-older.ensures 0 in
    let is = (removed l.older.items l.newer.items l.newest l.len c.args.slot c.index-newer.result.now c.index-older.result.now l.lent.items
    (c.self.invariant.0, c.self.invariant.1, c.self.invariant.2, c.self.invariant.3) there c.if-slot-self.false before behind).0 in
    (is.0, is.1, is.2, is.3, c.self.invariant.4, c.self.invariant.5, c.self.invariant.6)

pub returns-clause-after : goal.returns-clause-after
returns-clause-after c =
    let l = c.self.inside in
    let there = lies c.args.slot (walk l.older.items l.len l.newest) (rw (← c.self.view_is) at c.requires) in
    let low = c.self.invariant.0.below c.args.slot there in
    let before = get_or_read l.newer.items _ _ (omega (arith, c.self.invariant.0.back, low)) c.index-newer.ensures 0 in
    let behind = get_or_read l.older.items _ _ low c.index-older.ensures 0 in
    let is = (removed l.older.items l.newer.items l.newest l.len c.args.slot c.index-newer.result.now c.index-older.result.now
    l.lent.items (c.self.invariant.0, c.self.invariant.1, c.self.invariant.2, c.self.invariant.3) there c.if-slot-self.false before
    behind).1 in
    let items = ap reverse is ∙ (leaves c.args.slot (walk l.older.items l.len l.newest) c.self.invariant.0.distinct there).rest in
    let long = length-set l.older.items c.index-newer.result.now c.index-older.result.now in
    rw (← c.self.view_is) (cc (items, long))

pub returns-clause-there : goal.returns-clause-there
returns-clause-there c =
    let l = c.self.inside in
    rw (← c.self.view_is) (leaves c.args.slot (walk l.older.items l.len l.newest) c.self.invariant.0.distinct
    (lies c.args.slot (walk l.older.items l.len l.newest) (rw (← c.self.view_is) at c.requires))).there

pub returns-clause-within : goal.returns-clause-within
returns-clause-within c =
    let l = c.self.inside in
    rw (← c.self.view_is) (leaves c.args.slot (walk l.older.items l.len l.newest) c.self.invariant.0.distinct
    (lies c.args.slot (walk l.older.items l.len l.newest) (rw (← c.self.view_is) at c.requires))).within
