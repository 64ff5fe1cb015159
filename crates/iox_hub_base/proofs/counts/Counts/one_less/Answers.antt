use Rattle.std.proofs.Common.{◌≡◌, ◌-◌, false, None, sym, ap, subst, ◌∙◌}
use Rattle.std.specs.Option.{unwrap_or}
use Rattle.std.specs.Prelude.{nat_le}
use Rattle.iox_delivery_factories.specs.Domain.Kept.{kept, kept_under}
use Rattle.iox_hub_base.proofs.Counted.{counted, counted_anew, found, rises_kept, uncounted}
use Rattle.iox_hub_base.proofs.counts.Counts.one_less.Goals as goal

pub invariant_of-self : goal.invariant_of-self
invariant_of-self c =
    rises_kept c.args.number c.saturating_sub.result c.self.inside.entries.items _
    (counted_anew c.args.number _ c.self.inside.entries.items c.deref.ensures.value c.self.invariant c.in-Ok.place c.in-Ok.ensures.position
    c.in-Ok.ensures.bound c.index_mut.result.now.0 c.saturating_sub.result
    (ap (λ entry. entry.0) c.index_mut.ensures.value
    ∙ found c.args.number _ c.self.inside.entries.items c.deref.ensures.value c.self.invariant c.in-Ok.place c.in-Ok.ensures.position
    c.in-Ok.ensures.bound c.index_mut.result.now)) c.self.invariant

pub returns-in-Ok : goal.returns-in-Ok
returns-in-Ok c =
    rw (← c.self.view_is)
    (counted_anew c.args.number _ c.self.inside.entries.items c.deref.ensures.value c.self.invariant c.in-Ok.place c.in-Ok.ensures.position
    c.in-Ok.ensures.bound c.index_mut.result.now.0 c.saturating_sub.result
    (ap (λ entry. entry.0) c.index_mut.ensures.value
    ∙ found c.args.number _ c.self.inside.entries.items c.deref.ensures.value c.self.invariant c.in-Ok.place c.in-Ok.ensures.position
    c.in-Ok.ensures.bound c.index_mut.result.now)
    ∙ ap (λ count. kept c.args.number count c.self.inside.entries.items)
    (c.saturating_sub.ensures
    ∙ ap (λ found. unwrap_or found 0 - 1)
    (sym (counted c.args.number _ c.self.inside.entries.items c.deref.ensures.value c.self.invariant c.in-Ok.place c.in-Ok.ensures.position
    c.in-Ok.ensures.bound c.index.result.now c.index.ensures))))

pub returns-in-Err : goal.returns-in-Err
returns-in-Err c =
    let none : kept_under c.args.number c.args.self.now ≡ None =
    rw (← c.self.view_is) (uncounted c.args.number _ c.self.inside.entries.items c.deref.ensures.value c.self.invariant c.in-Err.field-0
    c.in-Err.ensures.position) in
    let wrong : nat_le 0 1 ≡ false = subst (λ found. nat_le (unwrap_or found 0) 1 ≡ false) none c.requires in absurd cc
