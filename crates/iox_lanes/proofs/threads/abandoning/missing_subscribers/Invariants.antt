use Rattle.iox_lanes_threads.specs.Ending.{has_subscriber}
use Rattle.iox_lanes.proofs.Missing.{Looked}
use Rattle.iox_lanes.proofs.threads.abandoning.missing_subscribers.Given as goal

abbrev pub invariant-loop-place : goal.invariant-loop-place
invariant-loop-place l = Looked (λ place. has_subscriber l.board place l.ports) l.at l.place l.left.items l.fn.ids.items
