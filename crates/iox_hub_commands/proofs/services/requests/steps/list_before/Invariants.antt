use Rattle.std.proofs.Common.{◌≡◌, ◌++◌, drop}
use Rattle.std.specs.List.{AllByRecursion}
use Rattle.iox_hub_commands.specs.Steps.{PublishesInForm, list_before}
use Rattle.iox_hub_commands.proofs.services.requests.steps.list_before.Given as goal

abbrev pub invariant-loop-before : goal.invariant-loop-before
invariant-loop-before l = (l.list.items ++ list_before l.name l.types (drop l.before-index l.steps) l.access
    ≡ list_before l.name l.types l.steps l.access)
    × AllByRecursion PublishesInForm l.list.items
