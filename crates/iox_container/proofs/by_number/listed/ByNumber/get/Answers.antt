use Rattle.std.proofs.Common.{◌≡◌, ◌<◌, length, Some, sym, ap, subst, ◌∙◌}
use Rattle.std.specs.BTreeMap.{is_at}
use Rattle.std.specs.List.{HoldsAt}
use Rattle.std.specs.Map.{lookup}
use Rattle.std.specs.Ordering.{nat_cmp}
use Rattle.iox_container.proofs.Valued.{lookup-entry, value_of}
use Rattle.iox_container.proofs.by_number.listed.ByNumber.get.Goals as goal

pub returns-in-Some : goal.returns-in-Some
returns-in-Some g c =
    let items = c.self.inside.entries.items in
    let within : c.in_ok-place.place < length items
    = subst (λ items. c.in_ok-place.place < length items) c.deref.ensures.value c.in_ok-place.ensures.within in
    let found : HoldsAt (λ entry. entry.0 ≡ c.args.number) items c.in_ok-place.place
    = subst (λ items. HoldsAt (λ entry. entry.0 ≡ c.args.number) items c.in_ok-place.place)
    c.deref.ensures.value c.in_ok-place.ensures.found in
    let is : lookup (is_at (nat_cmp c.args.number)) c.args.self.now ≡ value_of c.index.result.now.1
    = rw (← c.self.view_is) (lookup-entry c.args.number c.in_ok-place.place c.index.result.now
    items c.self.invariant.0 within found c.index.ensures) in
    sym (is ∙ ap value_of c.in-Some.is ∙ ap Some (sym c.deref-in-Some.ensures))

pub returns-in-None : goal.returns-in-None
returns-in-None g c =
    let items = c.self.inside.entries.items in
    let within : c.in_ok-place.place < length items
    = subst (λ items. c.in_ok-place.place < length items) c.deref.ensures.value c.in_ok-place.ensures.within in
    let found : HoldsAt (λ entry. entry.0 ≡ c.args.number) items c.in_ok-place.place
    = subst (λ items. HoldsAt (λ entry. entry.0 ≡ c.args.number) items c.in_ok-place.place)
    c.deref.ensures.value c.in_ok-place.ensures.found in
    let is : lookup (is_at (nat_cmp c.args.number)) c.args.self.now ≡ value_of c.index.result.now.1
    = rw (← c.self.view_is) (lookup-entry c.args.number c.in_ok-place.place c.index.result.now
    items c.self.invariant.0 within found c.index.ensures) in
    sym (is ∙ ap value_of c.in-None.is)
