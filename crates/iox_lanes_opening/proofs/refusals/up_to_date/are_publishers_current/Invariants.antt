use Rattle.iox_lanes_opening.specs.UpToDate.{is_current_publisher}
use Rattle.iox_lanes_opening.proofs.Listing.{HoldBelow}
use Rattle.iox_lanes_opening.proofs.refusals.up_to_date.are_publishers_current.Given as goal

abbrev pub invariant-loop-place : goal.invariant-loop-place
invariant-loop-place g l = HoldBelow (is_current_publisher l.ports) l.listed l.place
