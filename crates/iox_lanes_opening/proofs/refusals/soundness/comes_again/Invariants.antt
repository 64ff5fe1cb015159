use Rattle.std.proofs.Common.{◌≡◌, false}
use Rattle.iox_domain.specs.DomainPorts.Subscribing.{attached_at}
use Rattle.iox_lanes_opening.specs.Soundness.{any_below, share_publisher}
use Rattle.iox_lanes_opening.proofs.refusals.soundness.comes_again.Given as goal

abbrev pub invariant-loop-other : goal.invariant-loop-other
invariant-loop-other l = any_below (λ other. share_publisher (attached_at other l.port) (attached_at l.key l.port)) l.other ≡ false
