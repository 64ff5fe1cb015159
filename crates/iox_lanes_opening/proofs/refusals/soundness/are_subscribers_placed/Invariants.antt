use Rattle.iox_lanes_opening.specs.Soundness.{is_subscriber_placed}
use Rattle.iox_lanes_opening.proofs.Listing.{HoldBelow}
use Rattle.iox_lanes_opening.proofs.refusals.soundness.are_subscribers_placed.Given as goal

abbrev pub invariant-loop-place : goal.invariant-loop-place
invariant-loop-place g l = HoldBelow (is_subscriber_placed l.ports) l.listed l.place
