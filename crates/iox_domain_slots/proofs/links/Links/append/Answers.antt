use Rattle.std.proofs.Common.{rules, arith, ap, ◌≡◌, ◌∙◌, ◌+◌, ◌<◌, ◌++◌, ◌∷◌, [], ℕ, length, length-append, get_or, Some, None, true}
use Rattle.std.specs.Prelude.{is_some}
use Rattle.std.proofs.lemmas.List.{get_or_past}
use Rattle.iox_domain_slots.specs.Links.{IsOf}
use Rattle.iox_domain_slots.proofs.AllSlots.{end_kinds, end_some}
use Rattle.iox_domain_slots.proofs.links.Links.append.Goals as goal

pub invariant_of-self-2 : goal.invariant_of-self-2
invariant_of-self-2 c =
    let b = c.self.inside in
    let items = c.push.new.self.items in
    let after : items ≡ b.items.items ++ Some c.args.link ∷ [] = search (rules, c.in_ok-push.ensures.items, c.in_ok-push.was) in
    let long : length items ≡ length b.items.items + 1
    = ap length after ∙ length-append b.items.items (Some c.args.link ∷ []) in
    let lowest : (lower : ℕ) → lower < length b.items.items → is_some (get_or b.items.items lower None) ≡ true
    = rw (← c.self.view_is) at c.requires.lowest in
    let kind : IsOf b.overflows b.most_waiting b.most_borrowed (Some c.args.link) = rw (← c.self.view_is) at c.requires.kind in (
      omega (arith, long, c.len.ensures, c.if-len-ge-MOST_LINKS.false),
      rw after (end_kinds b.items.items b.overflows b.most_waiting b.most_borrowed c.args.link c.self.invariant.1 kind),
      c.self.invariant.2,
      c.self.invariant.3,
      omega (arith, c.len-self-inside-2.ensures),
      λ index past. get_or_past items index None (omega (arith, past, c.len-self-inside-2.ensures)),
      omega (arith, c.len-self-inside.ensures),
      λ index below. rw after (end_some b.items.items c.args.link lowest index (omega (arith, below, long, c.len-self-inside.ensures))),
      λ index last. rw after (end_some b.items.items c.args.link lowest index (omega (arith, last, long, c.len-self-inside-2.ensures))),
      get_or_past items c.len-self-inside.result None (omega (arith, c.len-self-inside.ensures)),
    )
