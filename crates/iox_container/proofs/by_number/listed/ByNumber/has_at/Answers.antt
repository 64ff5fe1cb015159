use Rattle.std.proofs.Common.{arith, ◌≡◌, ◌<◌, length, is_some, sym, ap, ◌∙◌}
use Rattle.std.proofs.lemmas.List.{get_or_read}
use Rattle.std.specs.BTreeMap.{is_at}
use Rattle.std.specs.List.{HoldsAt}
use Rattle.std.specs.Map.{lookup}
use Rattle.std.specs.Ordering.{nat_cmp}
use Rattle.iox_container.proofs.Valued.{lookup-entry, some_value, value_of}
use Rattle.iox_container.proofs.by_number.listed.ByNumber.has_at.Goals as goal

pub returns-then-entry-number : goal.returns-then-entry-number
returns-then-entry-number g c =
    let items = c.self.inside.entries.items in
    let entry = c.index-entry.result.now in
    let within : c.args.place < length items = omega (arith, c.if-place-len.false, c.len.ensures, c.self.inside.entries.ok.0) in
    let key : entry.0 ≡ c.args.number = omega (arith, c.if-entry-number.true) in
    let found : HoldsAt (λ entry. entry.0 ≡ c.args.number) items c.args.place
    = λ default. ap (λ entry. entry.0) (sym (get_or_read items c.args.place entry within c.index-entry.ensures default)) ∙ key in
    let is : lookup (is_at (nat_cmp c.args.number)) c.args.self.now ≡ value_of entry.1
    = rw (← c.self.view_is) (lookup-entry c.args.number c.args.place entry items c.self.invariant.0 within found c.index-entry.ensures) in
    λ there. ap is_some is ∙ some_value entry.1 ∙ sym c.is_some.ensures ∙ there
