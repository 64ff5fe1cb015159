use Rattle.std.proofs.Common.{rules, ◌≡◌, ◌+◌, ◌-◌, ◌≤◌, ◌<◌, ◌++◌, ◌∷◌, [], map, ap, sym, subst, ◌∙◌, arith}
use Rattle.std.specs.List.{AllByRecursion}
use Rattle.iox_hub_commands.specs.Steps.{PublishesInForm, list_before, from, lists_of}
use Rattle.iox_hub_commands.proofs.Accesses.{one_made}
use Rattle.iox_hub_commands.proofs.Formed.{all_pushed}
use Rattle.iox_hub_commands.proofs.services.requests.steps.step_lists.Goals as goal

pub loop-left-preserved : goal.loop-left-preserved
loop-left-preserved c =
    let some : 0 < c.loop-left.left = search (rules, c.loop-left-test.true) in
    let bound : c.loop-left.access + 1 + (c.loop-left.left - 1) ≤ 17 = omega (arith, c.loop-left.invariant.0, some) in
    let one : c.in_ok-list_before.field-0 ≡ list_before c.args.name.now c.args.types.now c.args.steps.now c.loop-left.access
    = search (rules, c.in_ok-list_before.ensures) in
    let form : AllByRecursion PublishesInForm c.in_ok-list_before.field-0 = search (rules, c.in_ok-list_before.ensures) in
    let items : c.push.new.self.items ≡ c.loop-left.lists.items ++ c.in_ok-list_before.field-0 ∷ []
    = search (rules, c.in_ok-push.ensures) in
    let made : c.push.new.self.items ≡ c.loop-left.lists.items
    ++ list_before c.args.name.now c.args.types.now c.args.steps.now c.loop-left.access ∷ []
    = items ∙ ap (λ list. c.loop-left.lists.items ++ list ∷ []) one in (
      bound,
      ap (λ lists. lists ++ map (list_before c.args.name.now c.args.types.now c.args.steps.now)
          (from (c.loop-left.access + 1) (c.loop-left.left - 1))) made
          ∙ one_made (list_before c.args.name.now c.args.types.now c.args.steps.now) c.loop-left.access c.loop-left.left
          c.loop-left.lists.items (lists_of c.args.name.now c.args.types.now c.args.steps.now) some c.loop-left.invariant.1,
      subst (AllByRecursion (AllByRecursion PublishesInForm)) (sym items)
          (all_pushed (AllByRecursion PublishesInForm) c.loop-left.lists.items c.in_ok-list_before.field-0 c.loop-left.invariant.2 form),
    )
