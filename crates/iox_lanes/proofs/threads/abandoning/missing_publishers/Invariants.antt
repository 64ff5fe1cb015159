use Rattle.iox_lanes_threads.specs.Ending.{has_publisher}
use Rattle.iox_lanes.proofs.Missing.{Looked}
use Rattle.iox_lanes.proofs.threads.abandoning.missing_publishers.Given as goal

abbrev pub invariant-loop-place : goal.invariant-loop-place
invariant-loop-place l = Looked (λ place. has_publisher l.board place l.ports) l.at l.place l.left.items l.fn.ids.items
