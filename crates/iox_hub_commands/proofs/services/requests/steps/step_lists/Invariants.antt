use Rattle.std.proofs.Common.{◌≡◌, ◌+◌, ◌≤◌, ◌++◌, map}
use Rattle.std.specs.List.{AllByRecursion}
use Rattle.iox_hub_commands.specs.Steps.{PublishesInForm, list_before, from, lists_of}
use Rattle.iox_hub_commands.proofs.services.requests.steps.step_lists.Given as goal

abbrev pub invariant-loop-left : goal.invariant-loop-left
invariant-loop-left l = (l.access + l.left ≤ 17)
    × (l.lists.items ++ map (list_before l.name l.types l.steps) (from l.access l.left) ≡ lists_of l.name l.types l.steps)
    × AllByRecursion (AllByRecursion PublishesInForm) l.lists.items

abbrev pub decreases-loop-left : goal.decreases-loop-left
decreases-loop-left l = l.left
