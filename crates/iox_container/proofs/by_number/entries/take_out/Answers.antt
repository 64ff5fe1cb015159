use Rattle.std.proofs.Common.{arith, ◌≡◌, ◌<◌, length, None, sym, ap, subst, ◌∙◌}
use Rattle.std.specs.BTreeMap.{is_at}
use Rattle.std.specs.List.Sorted.{IsStrictlySortedBy}
use Rattle.std.specs.Map.{keys_of}
use Rattle.std.specs.Ordering.{nat_cmp}
use Rattle.iox_container.specs.ByNumber.{values_in}
use Rattle.iox_container.proofs.Numbers.{keys-set, removed-at, rising_removed}
use Rattle.iox_container.proofs.Valued.{drop-entry, empty-entry}
use Rattle.iox_container.proofs.by_number.entries.take_out.Goals as goal

pub returns-then-place-len-clause-rises : goal.returns-then-place-len-clause-rises
returns-then-place-len-clause-rises g c =
    let items = c.args.entries.now.items in
    let within : c.args.place < length items = omega (arith, c.requires.within, c.args.entries.now.ok.0) in
    subst (λ items. IsStrictlySortedBy nat_cmp (keys_of items))
    (sym (c.remove.ensures.items ∙ removed-at c.args.number c.args.place c.remove.result items c.requires.rises within c.requires.found))
    (rising_removed (is_at (nat_cmp c.args.number)) items c.requires.rises)

pub returns-then-place-len-clause-values : goal.returns-then-place-len-clause-values
returns-then-place-len-clause-values g c =
    let items = c.args.entries.now.items in
    let within : c.args.place < length items = omega (arith, c.requires.within, c.args.entries.now.ok.0) in
    ap values_in c.remove.ensures.items
    ∙ drop-entry c.args.number c.args.place c.remove.result items c.requires.rises within c.requires.found

pub returns-else-place-len-clause-rises : goal.returns-else-place-len-clause-rises
returns-else-place-len-clause-rises g c =
    let items = c.args.entries.now.items in
    let within : c.args.place < length items = omega (arith, c.requires.within, c.args.entries.now.ok.0) in
    let lent = c.index_mut.result.now in
    let key : lent.0 ≡ c.args.number = ap (λ entry. entry.0) c.index_mut.ensures.value ∙ c.requires.found lent in
    subst (IsStrictlySortedBy nat_cmp) (sym (keys-set c.args.number c.args.place (lent.0, None) items within
    (c.requires.found (lent.0, None) ∙ sym key))) c.requires.rises

pub returns-else-place-len-clause-values : goal.returns-else-place-len-clause-values
returns-else-place-len-clause-values g c =
    let items = c.args.entries.now.items in
    let within : c.args.place < length items = omega (arith, c.requires.within, c.args.entries.now.ok.0) in
    let lent = c.index_mut.result.now in
    empty-entry c.args.number c.args.place lent items lent.0 c.requires.rises within c.requires.found
