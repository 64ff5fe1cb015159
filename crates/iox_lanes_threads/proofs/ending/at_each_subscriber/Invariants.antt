use Rattle.std.proofs.Common.{ℕ, ◌≡◌, ◌<◌, true}
use Rattle.iox_lanes_threads.specs.Ending.{has_subscriber}
use Rattle.iox_lanes_threads.proofs.ending.at_each_subscriber.Given as goal

abbrev pub invariant-loop-place : goal.invariant-loop-place
invariant-loop-place l = (place : ℕ) → place < l.place → has_subscriber l.board place l.ports ≡ true
