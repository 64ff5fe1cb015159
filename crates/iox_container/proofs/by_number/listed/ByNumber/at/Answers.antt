use Rattle.std.proofs.Common.{arith, ◌≡◌, ◌<◌, length, None, Some, sym, ap, subst, ◌∙◌}
use Rattle.std.specs.BTreeMap.{is_at}
use Rattle.std.specs.List.{HoldsAt}
use Rattle.std.specs.Map.{lookup}
use Rattle.std.specs.Ordering.{nat_cmp}
use Rattle.iox_container.proofs.Valued.{lookup-entry, value_of}
use Rattle.iox_container.proofs.by_number.listed.ByNumber.at.Goals as goal

pub unreachable-requires : goal.unreachable-requires
unreachable-requires g c =
    let items = c.self.inside.entries.items in
    let within : c.near.result < length items = subst (λ items. c.near.result < length items) c.deref.ensures.value c.near.ensures.within in
    let found : HoldsAt (λ entry. entry.0 ≡ c.args.number) items c.near.result
    = subst (λ items. HoldsAt (λ entry. entry.0 ≡ c.args.number) items c.near.result) c.deref.ensures.value c.near.ensures.found in
    let is : lookup (is_at (nat_cmp c.args.number)) c.args.self.now ≡ value_of c.index.result.now.1
    = rw (← c.self.view_is) (lookup-entry c.args.number c.near.result c.index.result.now
    items c.self.invariant.0 within found c.index.ensures) in
    let none : lookup (is_at (nat_cmp c.args.number)) c.args.self.now ≡ None = is ∙ ap value_of c.in-None.is in
    let there = c.requires in
    grind arith

pub returns : goal.returns
returns g c =
    let items = c.self.inside.entries.items in
    let within : c.near.result < length items = subst (λ items. c.near.result < length items) c.deref.ensures.value c.near.ensures.within in
    let found : HoldsAt (λ entry. entry.0 ≡ c.args.number) items c.near.result
    = subst (λ items. HoldsAt (λ entry. entry.0 ≡ c.args.number) items c.near.result) c.deref.ensures.value c.near.ensures.found in
    let is : lookup (is_at (nat_cmp c.args.number)) c.args.self.now ≡ value_of c.index.result.now.1
    = rw (← c.self.view_is) (lookup-entry c.args.number c.near.result c.index.result.now
    items c.self.invariant.0 within found c.index.ensures) in
    is ∙ ap value_of c.in-Some.is ∙ ap Some (sym c.deref-in-Some.ensures)
