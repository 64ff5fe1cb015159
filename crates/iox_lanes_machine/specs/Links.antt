-- The connections of lanes, and what waited at them before the first step.
use Rattle.std.specs.Prelude.{ℕ, List}
use Rattle.iox_lanes_machine.specs.QueuesSteps.declared.rings.ends.RingKind.{RingKind}

-- A connection: the numbers of its publisher and its subscriber; what its submission ring does with another message when it is full; the
-- maximum number of waiting messages; and the slots that waited before the first step, the oldest first.
pub record LinkState : Type 0 where
  pub publisher : ℕ
  pub subscriber : ℕ
  pub kind : RingKind
  pub limit : ℕ
  pub found : List ℕ
