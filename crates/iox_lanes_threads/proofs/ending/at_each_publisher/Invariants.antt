use Rattle.std.proofs.Common.{ℕ, ◌≡◌, ◌<◌, true}
use Rattle.iox_lanes_threads.specs.Ending.{has_publisher}
use Rattle.iox_lanes_threads.proofs.ending.at_each_publisher.Given as goal

abbrev pub invariant-loop-place : goal.invariant-loop-place
invariant-loop-place l = (place : ℕ) → place < l.place → has_publisher l.board place l.ports ≡ true
