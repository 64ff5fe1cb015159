use Rattle.std.proofs.Common.{◌≡◌, false}
use Rattle.iox_lanes_opening.specs.Soundness.{any_below}
use Rattle.iox_lanes_opening.specs.UpToDate.{is_stray}
use Rattle.iox_lanes_opening.proofs.refusals.up_to_date.has_stray_tie.Given as goal

abbrev pub invariant-loop-place : goal.invariant-loop-place
invariant-loop-place g l = any_below (is_stray l.list l.port) l.place ≡ false
