use Rattle.std.proofs.Common.{arith, sym}
use Rattle.iox_lanes_opening.specs.Slices.{is_slice}
use Rattle.iox_lanes_opening.proofs.Going.{none_got}
use Rattle.iox_lanes_opening.proofs.Slicing.{some_slice, slice_more}
use Rattle.iox_lanes_opening.proofs.refusals.slices.remembers_slice.Goals as goal

pub returns-then-is_slice_remembered : goal.returns-then-is_slice_remembered
returns-then-is_slice_remembered g c
    = sym (some_slice c.args.port.now.sender.uses.history c.loop-place.place c.is_slice_remembered.result c.is_slice_remembered.ensures
    c.if-is_slice_remembered.true)

pub loop-place-preserved : goal.loop-place-preserved
loop-place-preserved g c = slice_more c.args.port.now.sender.uses.history c.loop-place.place c.is_slice_remembered.result
    c.loop-place.invariant c.is_slice_remembered.ensures c.if-is_slice_remembered.false

pub returns : goal.returns
returns g c = sym (none_got is_slice c.args.port.now.sender.uses.history c.loop-place.place
    (omega (arith, c.loop-place-test.false, c.history-place-end.ensures, c.slots.ensures.history)) c.loop-place.invariant)
