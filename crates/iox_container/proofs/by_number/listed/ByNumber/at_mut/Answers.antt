use Rattle.std.proofs.Common.{ℕ, ◌≡◌, ◌<◌, length, set, is_some, Some, refl, sym, ap, subst, ◌∙◌}
use Rattle.std.proofs.lemmas.List.{get_or_read}
use Rattle.std.proofs.lemmas.Map.{length-set_value}
use Rattle.std.specs.Box.{with_value}
use Rattle.std.specs.List.Sorted.{IsStrictlySortedBy}
use Rattle.std.specs.Option.{option_copied_mut}
use Rattle.std.specs.BTreeMap.{is_at}
use Rattle.std.specs.List.{HoldsAt}
use Rattle.std.specs.Map.{lookup, set_value}
use Rattle.std.specs.Ordering.{nat_cmp}
use Rattle.iox_container.specs.ByNumber.{values_in}
use Rattle.iox_container.proofs.Numbers.{keys-set}
use Rattle.iox_container.proofs.Valued.{change-entry, lookup-entry, some_value, value_of}
use Rattle.iox_container.proofs.by_number.listed.ByNumber.at_mut.Goals as goal

-- an entry with another value, or with none
abbrev with_slot : {V : Type 0} → ℕ × V → V → ℕ × V
with_slot entry slot = (entry.0, slot)

pub unwrap-requires : goal.unwrap-requires
unwrap-requires g c =
    let items = c.self.inside.entries.items in
    let within : c.near-there.result < length items
    = subst (λ items. c.near-there.result < length items) c.deref.ensures.value c.near-there.ensures.within in
    let found : HoldsAt (λ entry. entry.0 ≡ c.args.number) items c.near-there.result
    = subst (λ items. HoldsAt (λ entry. entry.0 ≡ c.args.number) items c.near-there.result)
    c.deref.ensures.value c.near-there.ensures.found in
    let is : lookup (is_at (nat_cmp c.args.number)) c.args.self.now ≡ value_of c.index_mut.result.now.1
    = rw (← c.self.view_is) (lookup-entry c.args.number c.near-there.result c.index_mut.result.now
    items c.self.invariant.0 within found c.index_mut.ensures.value) in
    c.as_mut.ensures.variant ∙ sym (some_value c.index_mut.result.now.1) ∙ ap is_some (sym is) ∙ c.requires

pub invariant_of-self-lent : goal.invariant_of-self-lent
invariant_of-self-lent g c w =
    let items = c.self.inside.entries.items in
    let within : c.near-there.result < length items
    = subst (λ items. c.near-there.result < length items) c.deref.ensures.value c.near-there.ensures.within in
    let found : HoldsAt (λ entry. entry.0 ≡ c.args.number) items c.near-there.result
    = subst (λ items. HoldsAt (λ entry. entry.0 ≡ c.args.number) items c.near-there.result)
    c.deref.ensures.value c.near-there.ensures.found in
    let is : lookup (is_at (nat_cmp c.args.number)) c.args.self.now ≡ value_of c.index_mut.result.now.1
    = rw (← c.self.view_is) (lookup-entry c.args.number c.near-there.result c.index_mut.result.now
    items c.self.invariant.0 within found c.index_mut.ensures.value) in
    let entry = c.index_mut.result.now in
    let key : entry.0 ≡ c.args.number = ap (λ entry. entry.0) c.index_mut.ensures.value ∙ found entry in
    let old : entry.1 ≡ Some c.unwrap.result.now = sym c.as_mut.ensures.value ∙ ap option_copied_mut c.unwrap.ensures in
    let after = with_slot entry (Some (with_value c.unwrap.result.now w)) in
    let changed : values_in (set items c.near-there.result after) ≡ set_value (is_at (nat_cmp c.args.number)) (values_in items) w =
    change-entry c.args.number c.near-there.result c.unwrap.result.now entry.0 (with_value c.unwrap.result.now w)
    items key c.self.invariant.0 within found (λ default. ap (λ entry. entry.1)
    (sym (get_or_read items c.near-there.result entry within c.index_mut.ensures.value default)) ∙ old) in (
      subst (IsStrictlySortedBy nat_cmp) (sym (keys-set c.args.number c.near-there.result after items within (found after ∙ sym key)))
          c.self.invariant.0,
      c.self.invariant.1 ∙ sym (ap length changed ∙ length-set_value (is_at (nat_cmp c.args.number)) (values_in items) w),
    )

pub returns : goal.returns
returns g c =
    let items = c.self.inside.entries.items in
    let within : c.near-there.result < length items
    = subst (λ items. c.near-there.result < length items) c.deref.ensures.value c.near-there.ensures.within in
    let found : HoldsAt (λ entry. entry.0 ≡ c.args.number) items c.near-there.result
    = subst (λ items. HoldsAt (λ entry. entry.0 ≡ c.args.number) items c.near-there.result)
    c.deref.ensures.value c.near-there.ensures.found in
    let is : lookup (is_at (nat_cmp c.args.number)) c.args.self.now ≡ value_of c.index_mut.result.now.1
    = rw (← c.self.view_is) (lookup-entry c.args.number c.near-there.result c.index_mut.result.now
    items c.self.invariant.0 within found c.index_mut.ensures.value) in
    let entry = c.index_mut.result.now in
    let key : entry.0 ≡ c.args.number = ap (λ entry. entry.0) c.index_mut.ensures.value ∙ found entry in
    let old : entry.1 ≡ Some c.unwrap.result.now = sym c.as_mut.ensures.value ∙ ap option_copied_mut c.unwrap.ensures in
    let changed : (w : g.row.X.Denot) → values_in (set items c.near-there.result (entry.0, Some (with_value c.unwrap.result.now w)))
    ≡ set_value (is_at (nat_cmp c.args.number)) c.args.self.now w =
    λ w. rw (← c.self.view_is) (change-entry c.args.number c.near-there.result c.unwrap.result.now entry.0
    (with_value c.unwrap.result.now w) items key c.self.invariant.0 within found (λ default. ap (λ entry. entry.1)
    (sym (get_or_read items c.near-there.result entry within c.index_mut.ensures.value default)) ∙ old)) in
    let there : lookup (is_at (nat_cmp c.args.number)) c.args.self.now ≡ Some c.deref_mut.result.now =
    is ∙ ap value_of old ∙ ap Some (sym c.deref_mut.ensures.value) in
    ((refl, changed), record { writes_back = tt; value = there })
