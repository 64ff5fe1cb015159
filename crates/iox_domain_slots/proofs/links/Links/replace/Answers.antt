use Rattle.std.proofs.Common.{arith, ◌≡◌, ◌<◌, ◌≤◌, ◌+◌, ◌∙◌, ℕ, length, get_or, set, Some, None, true, subst}
use Rattle.std.specs.Prelude.{is_some}
use Rattle.std.proofs.lemmas.List.{length-set}
use Rattle.iox_domain_slots.specs.Links.{IsOf}
use Rattle.iox_domain_slots.proofs.AllSlots.{put_kinds, put_none, put_full, put_last}
use Rattle.iox_domain_slots.proofs.links.Links.replace.Goals as goal

pub invariant_of-self : goal.invariant_of-self
invariant_of-self c =
    let b = c.self.inside in
    let within : c.args.index < length b.items.items = rw (← c.self.view_is) at c.requires.within in
    let lowest : (lower : ℕ) → lower < c.args.index → is_some (get_or b.items.items lower None) ≡ true
    = rw (← c.self.view_is) at c.requires.lowest in
    let kind : IsOf b.overflows b.most_waiting b.most_borrowed (Some c.args.link) = rw (← c.self.view_is) at c.requires.kind in
    let slice : c.as_slice.result.now ≡ set b.items.items c.args.index (Some c.args.link)
    = c.as_slice.ensures.value ∙ c.put_link.ensures in
    let full = c.vacancy_from-self-inside in
    rw c.put_link.ensures (
      omega (arith, length-set b.items.items c.args.index (Some c.args.link), c.self.invariant.0),
      put_kinds b.items.items c.args.index b.overflows b.most_waiting b.most_borrowed c.args.link within c.self.invariant.1 kind,
      c.self.invariant.2,
      c.self.invariant.3,
      omega (
        arith,
        length-set b.items.items c.args.index (Some c.args.link),
        c.larger-top.ensures.least (length b.items.items) c.self.invariant.4 (omega (arith, within)),
      ),
      put_none b.items.items c.args.index b.top c.larger-top.result c.args.link c.self.invariant.5 c.larger-top.ensures.one
          c.larger-top.ensures.other,
      subst (λ all. full.result ≤ length all) slice full.ensures.within,
      put_full b.items.items c.args.index full.result c.args.link within lowest
          (subst (λ all. (at : ℕ) → c.args.index + 1 ≤ at → at < full.result → is_some (get_or all at None) ≡ true) slice
          full.ensures.lowest),
      put_last b.items.items c.args.index b.top c.larger-top.result c.args.link within c.self.invariant.8
          c.larger-top.ensures.other c.larger-top.ensures.least c.larger-top.ensures.one,
      subst (λ all. get_or all full.result None ≡ None) slice full.ensures.vacant,
    )
