use Rattle.iox_lanes_opening.specs.UpToDate.{is_current_subscriber}
use Rattle.iox_lanes_opening.proofs.Listing.{HoldBelow}
use Rattle.iox_lanes_opening.proofs.refusals.up_to_date.are_subscribers_current.Given as goal

abbrev pub invariant-loop-place : goal.invariant-loop-place
invariant-loop-place g l = HoldBelow (λ at entry. is_current_subscriber l.ports entry) l.listed l.place
