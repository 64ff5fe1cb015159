use Rattle.std.proofs.Common.{◌≡◌, ◌++◌, drop, map}
use Rattle.std.specs.List.{AllByRecursion}
use Rattle.iox_hub_commands.specs.Steps.{PublishesInForm, step_of}
use Rattle.iox_hub_commands.proofs.services.requests.steps.step_list.Given as goal

abbrev pub invariant-loop-named : goal.invariant-loop-named
invariant-loop-named l = (l.list.items ++ map (step_of l.name l.types) (drop l.named-index l.steps)
    ≡ map (step_of l.name l.types) l.steps)
    × AllByRecursion PublishesInForm l.list.items
