use Rattle.std.proofs.Common.{◌≡◌, ◌<◌, Some, length, arith, rules, refl, sym, ◌∙◌}
use borrow.Author.Rules.{of_calls}
use Rattle.std.specs.Fn.{CalledAt}
use Rattle.iox_container.specs.declared.callback_progression.CallbackProgression.TheVariants.{Continue, Stop}
use Rattle.iox_container.specs.SlotTable.{value_at}
use Rattle.iox_container.proofs.Pairs.{calls_continue, calls_stop, length-pairs, unseen_at_some}
use Rattle.iox_container.proofs.flat_map.FlatMap.list_keys.Goals as goal

pub returns-in-Stop-clause-called : goal.returns-in-Stop-clause-called
returns-in-Stop-clause-called g c =
    let t = c.args.self.now in
    let within : c.loop-index.index < length t.values = search rules in
    let there : value_at t.values c.loop-index.index ≡ Some c.in-Some.pair.now = rw (← c.self.view_is) (search rules) in
    let call : CalledAt g.F.FnMut c.loop-index.callback c.in-Some.pair.now.0 Stop c.callback.new.self
    = record { shown = _; shows = refl; called = c.in-Stop.ensures } in
    calls_stop (CalledAt g.F.FnMut) c.args.callback.now c.loop-index.callback c.callback.new.self t.values c.loop-index.index
    c.in-Some.pair.now within there call c.loop-index.invariant.1

pub loop-index-preserved : goal.loop-index-preserved
loop-index-preserved g c =
    let t = c.args.self.now in
    let within : c.loop-index.index < length t.values = search rules in
    let there : value_at t.values c.loop-index.index ≡ Some c.in-Some.pair.now = rw (← c.self.view_is) (search rules) in
    let call : CalledAt g.F.FnMut c.loop-index.callback c.in-Some.pair.now.0 Continue c.callback.new.self
    = record { shown = _; shows = refl; called = c.in-Continue.ensures } in (
      search of_calls,
      calls_continue (CalledAt g.F.FnMut) c.args.callback.now c.loop-index.callback c.callback.new.self t.values c.loop-index.index
          c.in-Some.pair.now within there call c.loop-index.invariant.1,
      omega (arith, c.loop-index.invariant.2, unseen_at_some t.values c.loop-index.index c.in-Some.pair.now within there),
    )

pub loop-index-init : goal.loop-index-init
loop-index-init g c =
    let counted = length-pairs c.self.inside.map.values in
    (search of_calls, (λ last calls. calls), rw (← c.self.view_is) (c.len-unseen.ensures.value ∙ sym counted))
