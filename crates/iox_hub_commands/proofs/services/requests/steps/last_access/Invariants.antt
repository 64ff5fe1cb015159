use Rattle.std.proofs.Common.{◌≡◌, max, length}
use Rattle.iox_hub_commands.specs.Steps.{last_access}
use Rattle.iox_hub_commands.proofs.services.requests.steps.last_access.Given as goal

abbrev pub invariant-loop-before : goal.invariant-loop-before
invariant-loop-before l = max l.last (last_access l.rest) ≡ last_access l.fn.steps

abbrev pub decreases-loop-before : goal.decreases-loop-before
decreases-loop-before l = length l.rest
