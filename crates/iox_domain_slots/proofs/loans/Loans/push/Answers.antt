use Rattle.std.proofs.Common.{arith, ◌+◌, ◌<◌, ◌^◌, ◌∙◌, ap, reverse}
use Rattle.std.proofs.lemmas.List.{length-reverse}
use Rattle.iox_container.specs.Links.{walk}
use Rattle.iox_container.proofs.Chains.{first_within}
use Rattle.iox_domain_slots.proofs.Loaned.{added, reverse_step}
use Rattle.iox_domain_slots.proofs.loans.Loans.push.Goals as goal

pub index_mut-requires-3 : goal.index_mut-requires-3
index_mut-requires-3 c = omega (arith, first_within _ _ _ _ _ _ c.self.invariant.0, c.self.invariant.0.back, c.self.inside.newer.ok.0)

few : (c : goal.After-self-5-1) → c.self.inside.len + 2 < 2 ^ 64
few c = omega (
  arith,
  c.self.invariant.0.counted,
  length-reverse (walk c.self.inside.older.items c.self.inside.len c.self.inside.newest),
  rw (← c.self.view_is) at c.requires.few,
)

pub invariant_of-self : goal.invariant_of-self
invariant_of-self c =
    let l = c.self.inside in
    let is = (added l.older.items l.newer.items l.newest l.len c.args.slot l.lent.items
    (c.self.invariant.0, c.self.invariant.1, c.self.invariant.2, c.self.invariant.3)
    (rw (← c.self.view_is) at c.requires.made) (rw (← c.self.view_is) at c.requires.free) (few c)).0 in
    (is.0, is.1, is.2, is.3, c.self.invariant.4, c.self.invariant.5, c.self.invariant.6)

pub returns-clause-items : goal.returns-clause-items
returns-clause-items c =
    let l = c.self.inside in
    let is = (added l.older.items l.newer.items l.newest l.len c.args.slot l.lent.items
    (c.self.invariant.0, c.self.invariant.1, c.self.invariant.2, c.self.invariant.3)
    (rw (← c.self.view_is) at c.requires.made) (rw (← c.self.view_is) at c.requires.free) (few c)).1 in
    rw (← c.self.view_is) (ap reverse is ∙ reverse_step c.args.slot (walk l.older.items l.len l.newest))
