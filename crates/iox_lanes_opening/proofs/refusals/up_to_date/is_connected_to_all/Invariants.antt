use Rattle.iox_lanes_opening.specs.UpToDate.{is_connected}
use Rattle.iox_lanes_opening.proofs.Listing.{HoldBelow}
use Rattle.iox_lanes_opening.proofs.refusals.up_to_date.is_connected_to_all.Given as goal

abbrev pub invariant-loop-other : goal.invariant-loop-other
invariant-loop-other g l = HoldBelow (is_connected l.place l.number l.port l.ports.subscribers) l.listed l.other
