use Rattle.iox_lanes_opening.specs.Soundness.{is_publisher_placed}
use Rattle.iox_lanes_opening.proofs.Listing.{HoldBelow}
use Rattle.iox_lanes_opening.proofs.refusals.soundness.are_publishers_placed.Given as goal

abbrev pub invariant-loop-place : goal.invariant-loop-place
invariant-loop-place g l = HoldBelow (is_publisher_placed l.ports) l.listed l.place
