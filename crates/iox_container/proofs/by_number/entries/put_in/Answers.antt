use Rattle.std.proofs.Common.{rules, ◌≡◌, ◌<◌, ◌≤◌, length, Ok, Err, Some, sym, ap, subst, ◌∙◌}
use Rattle.std.specs.List.{HoldsAt, insert}
use Rattle.std.specs.List.Sorted.{IsStrictlySortedBy, IsBinarySearchResult}
use Rattle.std.specs.Map.{keys_of}
use Rattle.std.specs.Ordering.{nat_cmp}
use Rattle.iox_container.specs.ByNumber.{values_in}
use Rattle.iox_container.proofs.Numbers.{higher-from, inserted-at, keys-set, lower-before, rising_inserted, stands-at}
use Rattle.iox_container.proofs.Valued.{fill-entry, new-entry}
use Rattle.iox_container.proofs.by_number.entries.put_in.Goals as goal

pub returns-in-Ok-clause-rises : goal.returns-in-Ok-clause-rises
returns-in-Ok-clause-rises g c =
    let items = c.args.entries.now.items in
    let within : c.in-Ok.place < length items = subst (λ items. c.in-Ok.place < length items) c.deref.ensures.value c.in-Ok.ensures.bound in
    let found : HoldsAt (λ entry. entry.0 ≡ c.args.number) items c.in-Ok.place
    = stands-at c.args.number items c.requires.rises c.in-Ok.place
    (subst (λ items. IsBinarySearchResult (λ entry. nat_cmp entry.0 c.args.number) items (Ok c.in-Ok.place)) c.deref.ensures.value
    c.in-Ok.ensures.position) in
    let lent = c.index_mut.result.now in
    let key : lent.0 ≡ c.args.number = ap (λ entry. entry.0) c.index_mut.ensures.value ∙ found lent in
    subst (IsStrictlySortedBy nat_cmp) (sym (keys-set c.args.number c.in-Ok.place (lent.0, Some c.args.boxed) items within
    (found (lent.0, Some c.args.boxed) ∙ sym key))) c.requires.rises

pub returns-in-Ok-clause-values : goal.returns-in-Ok-clause-values
returns-in-Ok-clause-values g c =
    let items = c.args.entries.now.items in
    let within : c.in-Ok.place < length items = subst (λ items. c.in-Ok.place < length items) c.deref.ensures.value c.in-Ok.ensures.bound in
    let found : HoldsAt (λ entry. entry.0 ≡ c.args.number) items c.in-Ok.place
    = stands-at c.args.number items c.requires.rises c.in-Ok.place
    (subst (λ items. IsBinarySearchResult (λ entry. nat_cmp entry.0 c.args.number) items (Ok c.in-Ok.place)) c.deref.ensures.value
    c.in-Ok.ensures.position) in
    let lent = c.index_mut.result.now in
    let key : lent.0 ≡ c.args.number = ap (λ entry. entry.0) c.index_mut.ensures.value ∙ found lent in
    fill-entry c.args.number c.in-Ok.place lent.0 c.args.boxed items key c.requires.rises within found

pub returns-in-Err-clause-rises : goal.returns-in-Err-clause-rises
returns-in-Err-clause-rises g c =
    let items = c.args.entries.now.items in
    let within : c.in-Err.place ≤ length items
    = subst (λ items. c.in-Err.place ≤ length items) c.deref.ensures.value c.in-Err.ensures.bound in
    let parted : IsBinarySearchResult (λ entry. nat_cmp entry.0 c.args.number) items (Err c.in-Err.place) =
    subst (λ items. IsBinarySearchResult (λ entry. nat_cmp entry.0 c.args.number) items (Err c.in-Err.place)) c.deref.ensures.value
    c.in-Err.ensures.position in
    let came : c.insert.new.self.items ≡ insert items c.in-Err.place (c.args.number, Some c.args.boxed)
    = search (rules, c.insert.ensures.items, c.insert.ensures.succeeds c.requires.room) in
    let as_entry = inserted-at c.args.number c.in-Err.place (Some c.args.boxed) items within
    (lower-before c.args.number items c.requires.rises c.in-Err.place parted)
    (higher-from c.args.number items c.requires.rises c.in-Err.place parted) in
    subst (λ items. IsStrictlySortedBy nat_cmp (keys_of items)) (sym (came ∙ as_entry))
    (rising_inserted c.args.number (Some c.args.boxed) items c.requires.rises)

pub returns-in-Err-clause-values : goal.returns-in-Err-clause-values
returns-in-Err-clause-values g c =
    let items = c.args.entries.now.items in
    let within : c.in-Err.place ≤ length items
    = subst (λ items. c.in-Err.place ≤ length items) c.deref.ensures.value c.in-Err.ensures.bound in
    let parted : IsBinarySearchResult (λ entry. nat_cmp entry.0 c.args.number) items (Err c.in-Err.place) =
    subst (λ items. IsBinarySearchResult (λ entry. nat_cmp entry.0 c.args.number) items (Err c.in-Err.place)) c.deref.ensures.value
    c.in-Err.ensures.position in
    let came : c.insert.new.self.items ≡ insert items c.in-Err.place (c.args.number, Some c.args.boxed)
    = search (rules, c.insert.ensures.items, c.insert.ensures.succeeds c.requires.room) in
    ap values_in came ∙ new-entry c.args.number c.in-Err.place c.args.boxed items within
    (lower-before c.args.number items c.requires.rises c.in-Err.place parted)
    (higher-from c.args.number items c.requires.rises c.in-Err.place parted)
