use Rattle.std.proofs.Common.{◌≡◌, ◌<◌, ◌∙◌, length, Ok, Err, sym, ap, subst}
use Rattle.std.specs.List.{HoldsAt}
use Rattle.std.specs.List.Sorted.{IsBinarySearchResult}
use Rattle.std.specs.Ordering.{nat_cmp}
use Rattle.std.specs.Prelude.{unwrap_or}
use Rattle.iox_container.proofs.Numbers.{stands-at}
use Rattle.iox_domain_ports.proofs.Tallying.{count-at, none-at}
use Rattle.iox_domain_ports.proofs.tallies.Tallies.get.Goals as goal

pub returns-in-Ok-clause-value : goal.returns-in-Ok-clause-value
returns-in-Ok-clause-value c =
    let items = c.self.inside.items.items in
    let within : c.in-Ok.place < length items
    = subst (λ items. c.in-Ok.place < length items) c.as_slice.ensures.value c.in-Ok.ensures.bound in
    let found : HoldsAt (λ entry. entry.0 ≡ c.args.number) items c.in-Ok.place
    = stands-at c.args.number items c.self.invariant.rises c.in-Ok.place
    (subst (λ items. IsBinarySearchResult (λ entry. nat_cmp entry.0 c.args.number) items (Ok c.in-Ok.place)) c.as_slice.ensures.value
    c.in-Ok.ensures.position) in
    rw (← c.self.view_is) (ap (λ entry. entry.1) c.index.ensures
    ∙ sym (count-at c.args.number c.in-Ok.place c.index.result.now items c.self.invariant.rises within found))

pub returns-in-Err-clause-value : goal.returns-in-Err-clause-value
returns-in-Err-clause-value c =
    let items = c.self.inside.items.items in
    let parted : IsBinarySearchResult (λ entry. nat_cmp entry.0 c.args.number) items (Err c.in-Err.field-0)
    = subst (λ items. IsBinarySearchResult (λ entry. nat_cmp entry.0 c.args.number) items (Err c.in-Err.field-0)) c.as_slice.ensures.value
    c.in-Err.ensures.position in
    rw (← c.self.view_is)
    (sym (ap (λ found. unwrap_or found 0) (none-at c.args.number c.in-Err.field-0 items c.self.invariant.rises parted)))
