use Rattle.std.proofs.Common.{rules, ◌≡◌, sym, ap, ◌∙◌, arith}
use Rattle.std.specs.List.{insert}
use Rattle.std.specs.Option.{unwrap_or}
use Rattle.iox_delivery_factories.specs.Domain.Kept.{kept}
use Rattle.iox_hub_base.specs.Hubs.{one_more}
use Rattle.iox_hub_base.proofs.Counted.{counted, counted_anew, counted_first, found, rises_kept, uncounted}
use Rattle.iox_hub_base.proofs.counts.RoomyCounts.one_more.Goals as goal

pub invariant_of-t-11 : goal.invariant_of-t-11
invariant_of-t-11 c =
    rises_kept c.args.number c.saturating_add.result c.self.inside.entries.items _
    (counted_anew c.args.number _ c.self.inside.entries.items c.deref.ensures.value c.self.invariant.0 c.in-Ok.place
    c.in-Ok.ensures.position c.in-Ok.ensures.bound c.index_mut.result.now.0 c.saturating_add.result
    (ap (λ entry. entry.0) c.index_mut.ensures.value
    ∙ found c.args.number _ c.self.inside.entries.items c.deref.ensures.value c.self.invariant.0 c.in-Ok.place c.in-Ok.ensures.position
    c.in-Ok.ensures.bound c.index_mut.result.now)) c.self.invariant.0

pub returns-in-Ok : goal.returns-in-Ok
returns-in-Ok c =
    rw (← c.self.view_is)
    (counted_anew c.args.number _ c.self.inside.entries.items c.deref.ensures.value c.self.invariant.0 c.in-Ok.place
    c.in-Ok.ensures.position c.in-Ok.ensures.bound c.index_mut.result.now.0 c.saturating_add.result
    (ap (λ entry. entry.0) c.index_mut.ensures.value
    ∙ found c.args.number _ c.self.inside.entries.items c.deref.ensures.value c.self.invariant.0 c.in-Ok.place c.in-Ok.ensures.position
    c.in-Ok.ensures.bound c.index_mut.result.now)
    ∙ ap (λ count. kept c.args.number count c.self.inside.entries.items)
    (c.saturating_add.ensures
    ∙ ap (λ found. one_more (unwrap_or found 0))
    (sym (counted c.args.number _ c.self.inside.entries.items c.deref.ensures.value c.self.invariant.0 c.in-Ok.place
    c.in-Ok.ensures.position c.in-Ok.ensures.bound c.index.result.now c.index.ensures))))

pub invariant_of-result : goal.invariant_of-result
invariant_of-result c =
    let came : c.insert.new.self.items ≡ insert c.self.inside.entries.items c.in-Err.place (c.args.number, 1)
    = search (rules, c.insert.ensures.items, c.insert.ensures.succeeds c.self.invariant.1) in
    rises_kept c.args.number 1 c.self.inside.entries.items _
    (came ∙ counted_first c.args.number _ c.self.inside.entries.items c.deref.ensures.value c.self.invariant.0 c.in-Err.place
    c.in-Err.ensures.position 1 c.in-Err.ensures.bound) c.self.invariant.0

pub returns-in-Err : goal.returns-in-Err
returns-in-Err c =
    let came : c.insert.new.self.items ≡ insert c.self.inside.entries.items c.in-Err.place (c.args.number, 1)
    = search (rules, c.insert.ensures.items, c.insert.ensures.succeeds c.self.invariant.1) in
    let first : 1 ≡ one_more 0 = omega arith in
    rw (← c.self.view_is)
    (came ∙ counted_first c.args.number _ c.self.inside.entries.items c.deref.ensures.value c.self.invariant.0 c.in-Err.place
    c.in-Err.ensures.position 1 c.in-Err.ensures.bound
    ∙ ap (λ count. kept c.args.number count c.self.inside.entries.items)
    (first ∙ ap (λ found. one_more (unwrap_or found 0))
    (sym (uncounted c.args.number _ c.self.inside.entries.items c.deref.ensures.value c.self.invariant.0 c.in-Err.place
    c.in-Err.ensures.position))))
