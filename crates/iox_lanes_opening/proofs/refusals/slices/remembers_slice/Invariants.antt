use Rattle.iox_lanes_opening.specs.Slices.{is_slice}
use Rattle.iox_lanes_opening.proofs.Going.{NoneGot}
use Rattle.iox_lanes_opening.proofs.refusals.slices.remembers_slice.Given as goal

abbrev pub invariant-loop-place : goal.invariant-loop-place
invariant-loop-place g l = NoneGot is_slice l.port.sender.uses.history l.place
