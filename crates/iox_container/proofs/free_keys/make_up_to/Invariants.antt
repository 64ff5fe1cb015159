use Rattle.std.proofs.Common.{◌≡◌, ◌+◌, ◌-◌, ◌≤◌}
use Rattle.iox_container.specs.LinkedKeys.{all_keys}
use Rattle.iox_container.proofs.free_keys.make_up_to.Given as goal

-- all keys are as they were, and no more were made than can be
abbrev pub invariant-loop-keys : goal.invariant-loop-keys
invariant-loop-keys l =
    (all_keys l.keys ≡ all_keys l.fn.keys)
    × (l.keys.room ≡ l.fn.keys.room)
    × (l.fn.keys.made ≤ l.fn.keys.room → l.keys.made ≤ l.keys.room)

abbrev pub decreases-loop-keys : goal.decreases-loop-keys
decreases-loop-keys l = l.key + 1 - l.keys.made
