use Rattle.std.proofs.Common.{◌≡◌, false}
use Rattle.iox_lanes_opening.specs.Soundness.{any_below, comes_again}
use Rattle.iox_lanes_opening.proofs.refusals.soundness.attaches_twice.Given as goal

abbrev pub invariant-loop-key : goal.invariant-loop-key
invariant-loop-key l = any_below (comes_again l.port) l.key ≡ false
